-- Blanks behind a text that was appended.
use Rattle.std.proofs.Common.{◌≡◌, ℕ, ◌+◌, ◌-◌, List, [], ◌∷◌, ◌++◌, length, drop, refl, ℤ, sym, ◌∙◌, ap, append_assoc, arith}
use Rattle.std.specs.Prelude.{replicate}
use Rattle.std.proofs.lemmas.List.{length-append, replicate-append-replicate}
use Rattle.fix_write.specs.Digits.{two_digits, four_digits}
use Rattle.fix_write.specs.Moments.{date_text, moment_text}
use Rattle.audit_columns.specs.Columns.{clock_of, column}

pub columned : (before text mid after : List ℕ) (width : ℕ) → mid ≡ before ++ text
    → after ≡ mid ++ replicate (1 + (width - (length mid - length before))) 32 → after ≡ before ++ column width text
columned before text mid after width is padded =
    let size : length mid - length before ≡ length text = omega (arith, ap (λ (l : List ℕ). length l) is, length-append before text) in
    padded
    ∙ ap (λ (n : ℕ). mid ++ replicate (1 + (width - n)) 32) size
    ∙ ap (λ (l : List ℕ). l ++ replicate (1 + (width - length text)) 32) is
    ∙ append_assoc before text (replicate (1 + (width - length text)) 32)

-- behind the date and its dash stands the time of day
pub behind_date : (moment : ℤ) → drop 9 (moment_text moment) ≡ clock_of moment
unfolding moment_text date_text four_digits two_digits
behind_date moment = refl

-- one more blank
abbrev blanks : ℕ → List ℕ
blanks n = replicate n 32

one_more : (n : ℕ) → blanks n ++ blanks 1 ≡ blanks (n + 1)
one_more n = replicate-append-replicate n 1 32

pub blank_on : (before out more : List ℕ) (n m : ℕ) → out ≡ before ++ replicate n 32 → more ≡ out ++ 32 ∷ [] → m ≡ n + 1
    → more ≡ before ++ replicate m 32
blank_on before out more n m was pushed is =
    pushed
    ∙ ap (λ (l : List ℕ). l ++ blanks 1) was
    ∙ append_assoc before (blanks n) (blanks 1)
    ∙ ap (λ (l : List ℕ). before ++ l) (one_more n)
    ∙ ap (λ (k : ℕ). before ++ blanks k) (sym is)
