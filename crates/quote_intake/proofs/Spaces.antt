-- The words of a line round its first space.
use Rattle.std.proofs.Common.{◌≡◌, ℕ, ◌+◌, ◌<◌, ◌≤◌, ◌==◌, Bool, true, false, not, suc, List, [], ◌∷◌, Some, None, take, drop, length, cond, nat_lt, arith, position, refl}
use Rattle.std.proofs.lemmas.Bool.Decides.{nat_tests}
use Rattle.std.specs.List.{position_or_len, onto_first}
use Rattle.std.proofs.lemmas.List.Splits.{slice_split_first}
use Rattle.quote_intake.specs.Words.{words_of}

pub found : (n m at : ℕ) → cond (nat_lt n m) (Some n) None ≡ Some at → (n < m) × (n ≡ at)
found n m at e = grind (arith, nat_tests)

pub not_found : (n m : ℕ) → cond (nat_lt n m) (Some n) None ≡ None → m ≤ n
not_found n m e = grind (arith, nat_tests)

pub cut_at : (text : List ℕ) (at : ℕ) → position (λ byte. byte == 32) text ≡ Some at
    → words_of text ≡ take at text ∷ words_of (drop (at + 1) text)
cut_at text at e = let f = found (position_or_len (λ byte. byte == 32) text) (length text) at e in
    rw (← f.1) (slice_split_first (λ byte. byte == 32) text 0 f.0)

step : (b : Bool) (x : ℕ) (xs : List ℕ) (parts : List (List ℕ)) (k n : ℕ)
    → suc n ≤ cond (not b) (1 + k) 0 → (n ≤ k → parts ≡ xs ∷ [])
    → cond b ([] ∷ parts) (onto_first x parts) ≡ (x ∷ xs) ∷ []
step true x xs parts k n h ih = absurd (omega arith)
step false x xs parts k n h ih = rw (ih (omega arith)) refl

pub whole : (text : List ℕ) → length text ≤ position_or_len (λ byte. byte == 32) text → words_of text ≡ text ∷ []
whole [] h = refl
whole (x ∷ xs) h = step (x == 32) x xs (words_of xs) (position_or_len (λ byte. byte == 32) xs) (length xs) h (whole xs)

pub cut_none : (text : List ℕ) → position (λ byte. byte == 32) text ≡ None → words_of text ≡ text ∷ []
cut_none text e = whole text (not_found (position_or_len (λ byte. byte == 32) text) (length text) e)

pub some_word : (text : List ℕ) → 0 < length (words_of text)
some_word text =
    elim (position (λ byte. byte == 32) text) as (λ place. position (λ byte. byte == 32) text ≡ place → 0 < length (words_of text)) [
      | Some at ↦ λ e. rw (cut_at text at e) (omega arith)
      | None ↦ λ e. rw (cut_none text e) (omega arith)
    ] refl
