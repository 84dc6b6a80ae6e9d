-- A text that is woven into another, part by part.
use Rattle.std.proofs.Common.{◌≡◌, ◌≤◌, ◌+◌, ◌-◌, ℕ, List, [], ◌∷◌, ◌++◌, take, drop, refl, sym, ◌∙◌, ap, subst, append-nil, arith}
use Rattle.std.proofs.Math.Seq.{take-add}
use Rattle.std.proofs.lemmas.List.{take-append-drop}
use Rattle.std.proofs.lemmas.Grind.{flat_map-append}
use Rattle.std.specs.List.{flat_map}
use Rattle.audit_report.specs.Weaving.{IsWoven, Piece}

one_more : (piece : Piece) (text page own all : List ℕ) → IsWoven text page → own ≡ piece.own → all ≡ piece.other ++ piece.own → IsWoven (text ++ own) (page ++ all)
one_more piece text page own all woven own_is all_is = record {
  pieces = woven.pieces ++ piece ∷ [];
  own = ap (λ (t : List ℕ). t ++ own) woven.own
      ∙ ap (λ (t : List ℕ). flat_map (λ (p : Piece). p.own) woven.pieces ++ t) (own_is ∙ sym (append-nil piece.own))
      ∙ sym (flat_map-append (λ (p : Piece). p.own) woven.pieces (piece ∷ []));
  all = ap (λ (t : List ℕ). t ++ all) woven.all
      ∙ ap (λ (t : List ℕ). flat_map (λ (p : Piece). p.other ++ p.own) woven.pieces ++ t) (all_is ∙ sym (append-nil (piece.other ++ piece.own)))
      ∙ sym (flat_map-append (λ (p : Piece). p.other ++ p.own) woven.pieces (piece ∷ []));
}

-- other text stands before all
pub woven_first : (page : List ℕ) → IsWoven [] page
woven_first page = record {
  pieces = (record { other = page; own = [] }) ∷ [];
  own = refl;
  all = sym (append-nil (page ++ []) ∙ append-nil page);
}

-- more text that is not its own
pub woven_other : (text page other new : List ℕ) → IsWoven text page → new ≡ page ++ other → IsWoven text new
woven_other text page other new woven is =
    rw (is, ← append-nil text) (one_more (record { other = other; own = [] }) text page [] other woven refl (sym (append-nil other)))

-- more of the text
pub woven_own : (text page own new : List ℕ) → IsWoven text page → new ≡ page ++ own → IsWoven (text ++ own) new
woven_own text page own new woven is = rw is (one_more (record { other = []; own = own }) text page own own woven refl refl)

-- the next part of a text, between other texts
pub woven_next : (text page : List ℕ) (begin size : ℕ) (before behind first second new : List ℕ) → IsWoven (take begin text) page
    → first ≡ page ++ before → second ≡ first ++ take size (drop begin text) → new ≡ second ++ behind → IsWoven (take (begin + size) text) new
woven_next text page begin size before behind first second new woven a b c =
    woven_other (take (begin + size) text) second behind new
    (subst (λ (t : List ℕ). IsWoven t second) (sym (take-add begin size text))
    (woven_own (take begin text) first (take size (drop begin text)) second (woven_other (take begin text) page before first woven a) b)) c

-- the rest of a text, and another one
pub woven_last : (text page : List ℕ) (begin : ℕ) (behind first new : List ℕ) → IsWoven (take begin text) page
    → first ≡ page ++ drop begin text → new ≡ first ++ behind → IsWoven text new
woven_last text page begin behind first new woven a b =
    woven_other text first behind new
    (subst (λ (t : List ℕ). IsWoven t first) (take-append-drop begin text) (woven_own (take begin text) page (drop begin text) first woven a)) b

-- the part of a text up to a place, between other texts
pub woven_to : (text page : List ℕ) (begin end : ℕ) (before behind first second new : List ℕ) → begin ≤ end → IsWoven (take begin text) page
    → first ≡ page ++ before → second ≡ first ++ take (end - begin) (drop begin text) → new ≡ second ++ behind → IsWoven (take end text) new
woven_to text page begin end before behind first second new le woven a b c =
    let whole : begin + (end - begin) ≡ end = omega (arith, le) in
    subst (λ (n : ℕ). IsWoven (take n text) new) whole (woven_next text page begin (end - begin) before behind first second new woven a b c)
