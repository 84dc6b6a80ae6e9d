-- What is added behind a text, field by field.
use Rattle.std.proofs.Common.{◌≡◌, ℕ, List, ◌++◌, ap, ◌∙◌, append_assoc}

pub behind : (out front whole next last : List ℕ) → last ≡ whole ++ next → whole ≡ out ++ front → last ≡ out ++ (front ++ next)
behind out front whole next last f e = f ∙ ap (λ (xs : List ℕ). xs ++ next) e ∙ append_assoc out front next
