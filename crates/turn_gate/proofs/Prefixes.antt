-- Beginnings of one list.
use Rattle.std.proofs.Common.{◌≤◌, List, [], ◌∷◌, ◌++◌, length, refl, ap, ◌∙◌, append_assoc, arith}
use Rattle.venue_words.specs.Journals.{StartsWith}

pub starts_more : {A : Type 0} (xs ys more : List A) → StartsWith xs ys → StartsWith (xs ++ more) ys
starts_more xs ys more s = (s.0 ++ more, ap (λ zs. zs ++ more) s.1 ∙ append_assoc ys s.0 more)

pub starts_whole : {A : Type 0} (xs : List A) → StartsWith xs xs
starts_whole [] = ([], refl)
starts_whole (x ∷ xs) = let s = starts_whole xs in (s.0, ap (λ zs. x ∷ zs) s.1)

pub starts_length : {A : Type 0} (xs ys : List A) → StartsWith xs ys → length ys ≤ length xs
starts_length xs [] s = omega arith
starts_length [] (y ∷ ys) s = cc
starts_length (x ∷ xs) (y ∷ ys) s = let h = starts_length xs ys (s.0, (cc)) in omega arith

pub starts_trans : {A : Type 0} (xs ys zs : List A) → StartsWith xs ys → StartsWith ys zs → StartsWith xs zs
starts_trans xs ys zs s t = (t.0 ++ s.0, s.1 ∙ ap (λ ws. ws ++ s.0) t.1 ∙ append_assoc zs t.0 s.0)
