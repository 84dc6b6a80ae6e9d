-- How long lines are.
use Rattle.std.proofs.Common.{◌≤◌, ◌*◌, ◌==◌, ℕ, true, false, Bool, List, [], ◌∷◌, ◌++◌, length, length-append, arith}
use Rattle.std.specs.Prelude.{ℤ, if◌then◌else◌, codes}
use Rattle.script_text.specs.Escaping.{escaped, escape_text, is_plain}
use Rattle.fix_write.specs.Moments.{moment_text}
use Rattle.fix_write.specs.Lengths.{length-moment_text}
use Rattle.live_words.specs.Lines.{open_line, bytes_line, empty_line, moment_line}

of_two : (a b : Bool) (xs ys zs : List ℕ) → length xs ≤ 3 → length ys ≤ 3 → length zs ≤ 3
    → length (if a then xs else (if b then ys else zs)) ≤ 3
of_two true b xs ys zs x y z = x
of_two false true xs ys zs x y z = y
of_two false false xs ys zs x y z = z

-- a byte takes three at most
escaped_short : (byte : ℕ) → length (escaped byte) ≤ 3
unfolding escaped
escaped_short byte = of_two (byte == 1) (is_plain byte) _ _ _ (omega arith) (omega arith) (omega arith)

-- a text takes three times its bytes at most
pub escape_text_short : (bytes : List ℕ) → length (escape_text bytes) ≤ 3 * length bytes
unfolding escape_text
escape_text_short [] = omega arith
escape_text_short (byte ∷ bytes) = omega (arith, length-append (escaped byte) (escape_text bytes), escaped_short byte, escape_text_short bytes)

pub bytes_line_short : (name piece : List ℕ) → length name ≤ 16 → length piece ≤ 4096 → length (bytes_line name piece) ≤ 16384
bytes_line_short name piece n p =
    omega (arith, length-append ((codes "B " ++ name) ++ 32 ∷ []) (escape_text piece), length-append (codes "B " ++ name) (32 ∷ []), length-append (codes "B ") name, escape_text_short piece)

pub open_line_short : (name : List ℕ) → length name ≤ 16 → length (open_line name) ≤ 16384
open_line_short name n = omega (arith, length-append (codes "O ") name)

pub empty_line_short : (symbol market : List ℕ) → length symbol ≤ 16 → length market ≤ 16 → length (empty_line symbol market) ≤ 16384
empty_line_short symbol market s m =
    omega (arith, length-append ((codes "Q " ++ symbol) ++ 32 ∷ market) (codes " - -"), length-append (codes "Q " ++ symbol) (32 ∷ market), length-append (codes "Q ") symbol)

pub moment_line_short : (moment : ℤ) → length (moment_line moment) ≤ 16384
moment_line_short moment = omega (arith, length-append (codes "T ") (moment_text moment), length-moment_text moment)
