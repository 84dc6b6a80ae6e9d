-- Texts that are appended one after the other.
use Rattle.std.proofs.Common.{◌≡◌, ℕ, List, ◌++◌, ◌∙◌, ap, append_assoc}

-- one text, and another one
pub joined : (old x y : List ℕ) {mid new : List ℕ} → mid ≡ old ++ x → new ≡ mid ++ y → new ≡ old ++ (x ++ y)
joined old x y {mid} {new} a b = b ∙ ap (λ (t : List ℕ). t ++ y) a ∙ append_assoc old x y

-- a text that is another one
pub as_text : (old : List ℕ) {new x y : List ℕ} → new ≡ old ++ x → x ≡ y → new ≡ old ++ y
as_text old {new} {x} {y} a b = a ∙ ap (λ (t : List ℕ). old ++ t) b
