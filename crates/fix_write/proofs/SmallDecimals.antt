-- The digits of numbers of up to four digits.
use Rattle.std.proofs.Common.{◌≡◌, ℕ, ◌+◌, ◌/◌, ◌%◌, ◌<◌, ◌≤◌, List, [], ◌∷◌, ◌++◌, sym, ap, ◌∙◌, append_assoc, arith}
use Rattle.std.specs.Prelude.{decimal}
use Rattle.std.proofs.lemmas.Fmt.{decimal_digit, decimal_step}
use Rattle.fix_write.specs.Digits.{digit}

decimal_one : (n : ℕ) → n < 10 → decimal n ≡ digit n ∷ []
decimal_one n h =
    let same : n ≡ n % 10 = omega arith in
    decimal_digit n h ∙ ap (λ (k : ℕ). (48 + k) ∷ []) same

decimal_two : (n : ℕ) → 10 ≤ n → n < 100 → decimal n ≡ digit (n / 10) ∷ digit n ∷ []
decimal_two n low high =
    decimal_step n low (omega arith) ∙ ap (λ (l : List ℕ). l ++ digit n ∷ []) (decimal_one (n / 10) (omega arith))

decimal_three : (n : ℕ) → 100 ≤ n → n < 1000 → decimal n ≡ digit (n / 100) ∷ digit (n / 10) ∷ digit n ∷ []
decimal_three n low high =
    let up : n / 10 / 10 ≡ n / 100 = omega arith in
    decimal_step n (omega arith) (omega arith)
    ∙ ap (λ (l : List ℕ). l ++ digit n ∷ []) (decimal_two (n / 10) (omega arith) (omega arith))
    ∙ ap (λ (k : ℕ). digit k ∷ digit (n / 10) ∷ digit n ∷ []) up

decimal_four : (n : ℕ) → 1000 ≤ n → n < 10000 → decimal n ≡ digit (n / 1000) ∷ digit (n / 100) ∷ digit (n / 10) ∷ digit n ∷ []
decimal_four n low high =
    let up : n / 10 / 100 ≡ n / 1000 = omega arith in
    let next : n / 10 / 10 ≡ n / 100 = omega arith in
    decimal_step n (omega arith) (omega arith)
    ∙ ap (λ (l : List ℕ). l ++ digit n ∷ []) (decimal_three (n / 10) (omega arith) (omega arith))
    ∙ ap (λ (k : ℕ). digit k ∷ digit (n / 10 / 10) ∷ digit (n / 10) ∷ digit n ∷ []) up
    ∙ ap (λ (k : ℕ). digit (n / 1000) ∷ digit k ∷ digit (n / 10) ∷ digit n ∷ []) next

-- digits that are appended with a byte behind them

pub laid_one : (out : List ℕ) (a n e : ℕ) → n < 10 → a ≡ digit n → out ++ a ∷ e ∷ [] ≡ out ++ decimal n ++ e ∷ []
laid_one out a n e h p = rw p (rw (decimal_one n h) (sym (append_assoc out (digit n ∷ []) (e ∷ []))))

pub laid_two : (out : List ℕ) (a b n e : ℕ) → 10 ≤ n → n < 100 → a ≡ digit (n / 10) → b ≡ digit n → out ++ a ∷ b ∷ e ∷ [] ≡ out ++ decimal n ++ e ∷ []
laid_two out a b n e l h p q = rw p (rw q (rw (decimal_two n l h) (sym (append_assoc out (digit (n / 10) ∷ digit n ∷ []) (e ∷ [])))))

pub laid_three : (out : List ℕ) (a b c n e : ℕ) → 100 ≤ n → n < 1000 → a ≡ digit (n / 100) → b ≡ digit (n / 10) → c ≡ digit n → out ++ a ∷ b ∷ c ∷ e ∷ [] ≡ out ++ decimal n ++ e ∷ []
laid_three out a b c n e l h p q r =
    rw p (rw q (rw r (rw (decimal_three n l h) (sym (append_assoc out (digit (n / 100) ∷ digit (n / 10) ∷ digit n ∷ []) (e ∷ []))))))

pub laid_four : (out : List ℕ) (a b c d n e : ℕ) → 1000 ≤ n → n < 10000 → a ≡ digit (n / 1000) → b ≡ digit (n / 100) → c ≡ digit (n / 10) → d ≡ digit n → out ++ a ∷ b ∷ c ∷ d ∷ e ∷ [] ≡ out ++ decimal n ++ e ∷ []
laid_four out a b c d n e l h p q r s =
    rw p (rw q (rw r (rw s (rw (decimal_four n l h) (sym (append_assoc out (digit (n / 1000) ∷ digit (n / 100) ∷ digit (n / 10) ∷ digit n ∷ []) (e ∷ [])))))))
