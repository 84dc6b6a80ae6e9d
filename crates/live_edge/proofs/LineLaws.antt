-- The text of lines, and their order in a batch.
use Rattle.std.proofs.Common.{◌≡◌, inl, inr, ℕ, List, [], ◌∷◌, ◌++◌, refl, sym, ◌∙◌, ap, append_assoc, append-nil}
use Rattle.std.specs.Prelude.{ℤ}
use Rattle.ports.specs.Cuts.{joined}
use Rattle.live_words.specs.Lines.{moment_line, text_of_lines}
use Rattle.live_edge.specs.Rounds.{IsMarked, IsInOrder}

-- one line more
pub text_of_lines-last : (lines : List (List ℕ)) (line : List ℕ) → text_of_lines (lines ++ line ∷ []) ≡ text_of_lines lines ++ (line ++ 10 ∷ [])
text_of_lines-last [] line = refl
text_of_lines-last (x ∷ lines) line =
    ap (λ (t : List ℕ). x ++ 10 ∷ t) (text_of_lines-last lines line) ∙ sym (append_assoc x (10 ∷ text_of_lines lines) (line ++ 10 ∷ []))

-- the body stands behind the moment
pub in_order : (first marked body lines : List (List ℕ)) (moment : ℤ) → IsMarked first moment marked → lines ≡ marked ++ body → IsInOrder first moment body lines
in_order first marked body lines moment (inl e) is = inl (is ∙ ap (λ (l : List (List ℕ)). l ++ body) e)
in_order first marked body lines moment (inr e) is = inr (is ∙ ap (λ (l : List (List ℕ)). l ++ body) e ∙ append_assoc first (moment_line moment ∷ []) body)

-- a line more of a text is put
pub part_more : (old text rest behind line : List ℕ) (told told' : List (List ℕ))
    → (part : List ℕ) × (text_of_lines told ≡ old ++ part) × (part ++ rest ≡ text) → told' ≡ told ++ line ∷ [] → rest ≡ line ++ 10 ∷ behind
    → (part : List ℕ) × (text_of_lines told' ≡ old ++ part) × (part ++ behind ≡ text)
part_more old text rest behind line told told' p more cut = (
  p.0 ++ (line ++ 10 ∷ []),
  ap text_of_lines more ∙ text_of_lines-last told line ∙ ap (λ (l : List ℕ). l ++ (line ++ 10 ∷ [])) p.1 ∙ append_assoc old p.0 (line ++ 10 ∷ []),
  append_assoc p.0 (line ++ 10 ∷ []) behind ∙ ap (λ (l : List ℕ). p.0 ++ l) (append_assoc line (10 ∷ []) behind ∙ sym cut) ∙ p.2,
)

-- a piece more
pub joined_more : (pieces : List (List ℕ)) (piece : List ℕ) → joined (pieces ++ piece ∷ []) ≡ joined pieces ++ piece
joined_more [] piece = append-nil piece
joined_more (x ∷ pieces) piece = ap (λ (l : List ℕ). x ++ l) (joined_more pieces piece) ∙ sym (append_assoc x (joined pieces) piece)
