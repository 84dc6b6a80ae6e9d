-- What the text of a file of quotes says, by its first line.
use Rattle.std.proofs.Common.{◌≡◌, ℕ, ◌+◌, ◌<◌, Bool, true, false, List, [], ◌∷◌, ◌++◌, length, Some, Err, refl, ap, arith, nat_lt, length-append}
use Rattle.std.proofs.lemmas.Bool.Decides.{nat_tests}
use Rattle.venue_words.specs.declared.limits.TheConstants.{MAX_LINE_BYTES, MAX_SCRIPT_BYTES}
use Rattle.venue_words.specs.declared.config.Config.{Config}
use Rattle.script_text.specs.Lines.{cut, has_end}
use Rattle.script_text.specs.LinesLaws.{cut_joined, cut_first, cut_whole, joined}
use Rattle.script_text.specs.declared.fault.LineFault.TheVariants.{Limit}
use Rattle.script_text.specs.declared.fault.LimitCause.TheVariants.{Line}
use Rattle.serve_core.specs.QuoteFiles.{Quotes, after_quote, nth_quote, quote_of, quotes_from, quotes_in, rest_fault}

pub first_line : (config : Config) (n bytes : ℕ) (line more : List ℕ) → has_end line ≡ false
    → quotes_in config n bytes (line ++ 10 ∷ more)
    ≡ after_quote (nth_quote config (n + 1) (nat_lt MAX_SCRIPT_BYTES (bytes + length line + 1)) line)
    (quotes_in config (n + 1) (bytes + length line + 1) more)
unfolding quotes_in quotes_from
first_line config n bytes line more clear = rw (cut_first line more clear) refl

pub last_rest : (config : Config) (n bytes : ℕ) (rest : List ℕ) → has_end rest ≡ false
    → quotes_in config n bytes rest ≡ record { quotes = []; fault = rest_fault (n + 1) rest }
unfolding quotes_in quotes_from
last_rest config n bytes rest clear = rw (cut_whole rest clear) refl

-- ---- a line that is too long

long_line : (config : Config) (n : ℕ) (is_over : Bool) (front line : List ℕ) → MAX_LINE_BYTES < length front
    → nth_quote config n is_over (front ++ line) ≡ Err (Limit n Line)
unfolding nth_quote quote_of
long_line config n true front line h =
    let long : nat_lt MAX_LINE_BYTES (length (front ++ line)) ≡ true = grind (arith, nat_tests, length-append) in
    rw long refl
long_line config n false front line h =
    let long : nat_lt MAX_LINE_BYTES (length (front ++ line)) ≡ true = grind (arith, nat_tests, length-append) in
    rw long refl

long_rest : (n : ℕ) (front rest : List ℕ) → MAX_LINE_BYTES < length front → rest_fault n (front ++ rest) ≡ Some (Limit n Line)
long_rest n [] rest h = absurd (omega arith)
long_rest n (b ∷ front) rest h =
    let long : nat_lt MAX_LINE_BYTES (length (b ∷ (front ++ rest))) ≡ true = grind (arith, nat_tests, length-append) in
    rw long refl

long_joined : (config : Config) (n bytes : ℕ) (front : List ℕ) (lines : List (List ℕ)) (rest : List ℕ) → MAX_LINE_BYTES < length front
    → quotes_from config n bytes (joined front lines rest).lines (joined front lines rest).rest
    ≡ record { quotes = []; fault = Some (Limit (n + 1) Line) }
unfolding quotes_from joined
long_joined config n bytes front [] rest h =
    ap (λ (f : _). let q : Quotes = record { quotes = []; fault = f } in q) (long_rest (n + 1) front rest h)
long_joined config n bytes front (line ∷ lines) rest h =
    rw (long_line config (n + 1) (nat_lt MAX_SCRIPT_BYTES (bytes + length (front ++ line) + 1)) front line h) refl

pub long_text : (config : Config) (n bytes : ℕ) (front more : List ℕ) → has_end front ≡ false → MAX_LINE_BYTES < length front
    → quotes_in config n bytes (front ++ more) ≡ record { quotes = []; fault = Some (Limit (n + 1) Line) }
unfolding quotes_in
long_text config n bytes front more clear h =
    rw (cut_joined front more clear) (long_joined config n bytes front (cut more).lines (cut more).rest h)
