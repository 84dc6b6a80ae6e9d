-- The map of ids, seen as the list of ids that are used up.
use Rattle.std.proofs.Common.{◌≡◌, ℕ, ◌+◌, ◌-◌, ◌<◌, ◌≤◌, Bool, true, false, List, [], ◌∷◌, ◌++◌, length, refl, ap, sym, ◌∙◌, arith, true≢false}
use Rattle.std.specs.Prelude.{◌==◌, ◌&&◌, ◌||◌, map, not, Option, Some, None, is_some, cond, option_map, if◌then◌else◌}
use Rattle.std.specs.Map.{lookup}
use Rattle.std.specs.Str.{bytes_eq}
use Rattle.std.proofs.lemmas.List.{map-append, append-nil, length-append, length-drop, length-map, take-append-drop}
use Rattle.std.proofs.Math.Seq.{take-append_seam, drop-append_seam}
use Rattle.std.proofs.lemmas.Cmp.{nat_eq_equiv, nat_list_eq_equiv}
use Rattle.indexmap.specs.IndexMap.{IndexMap, insert_entry}
use Rattle.indexmap.proofs.CallerLemmas.{insert_entry-new}
use Rattle.symbol_book.specs.declared.ids.ClOrdId.{ClOrdId}
use Rattle.symbol_book.specs.Ids.{UsedId, IdList, IsPlaced, list_of, used_of, entry_of, same_id}
use Rattle.eager_meaning.specs.Orders.{is_used}

-- an entry of the map as contracts see it
abbrev pub entry_for : ClOrdId × ℕ → UsedId
entry_for e = record { member = e.0.member; id = e.0.id; order = e.1 }

-- what is found, or not
found : (b : Bool) (u : ℕ) (r : Option ℕ) (any : Bool) → is_some r ≡ any → is_some (cond b (Some u) r) ≡ (b || any)
found true u r any p = refl
found false u r any p = p

-- an id is in the map where it is used up
pub held_is_used : (eq : ClOrdId → ClOrdId → Bool) → ((a b : ClOrdId) → eq a b ≡ ((b.member == a.member) && bytes_eq b.id a.id)) → (k : ClOrdId) (es : List (ClOrdId × ℕ))
    → is_some (lookup (eq k) es) ≡ is_used k.member k.id (used_of (map entry_for es))
unfolding is_used
held_is_used eq same k [] = refl
held_is_used eq same k (e ∷ es) = rw (same k e.0) (found _ e.1 _ _ (held_is_used eq same k es))

-- the test goes both ways
pub same_id_swaps : (a b : ClOrdId) → same_id a b ≡ ((b.member == a.member) && bytes_eq b.id a.id)
same_id_swaps a b = rw (nat_eq_equiv.symm a.member b.member, nat_list_eq_equiv.symm a.id b.id) refl

-- an id that isn't used up is not in the map
none_of : (r : Option ℕ) → is_some r ≡ false → r ≡ None
none_of None p = refl
none_of (Some u) p = absurd (true≢false p)

-- a new id goes last
pub pushed_last : {S : Type 0} (m : IndexMap ClOrdId ℕ S) (k : ClOrdId) (u : ℕ) → is_used k.member k.id (used_of (map entry_for m.entries)) ≡ false → map entry_for (insert_entry same_id m.entries k u) ≡ map entry_for m.entries ++ entry_for (k, u) ∷ []
pushed_last m k u fresh =
    ap (map entry_for) (insert_entry-new same_id m k u (none_of _ (held_is_used same_id same_id_swaps k m.entries ∙ fresh))) ∙ map-append entry_for m.entries ((k, u) ∷ [])

-- the entry that is found, by its order
found_order : (b : Bool) (u : ℕ) (r : Option ℕ) (e : UsedId) (any : Option UsedId) → u ≡ e.order → r ≡ option_map (λ (x : UsedId). x.order) any → cond b (Some u) r ≡ option_map (λ (x : UsedId). x.order) (cond b (Some e) any)
found_order true u r e any at p = ap Some at
found_order false u r e any at p = p

pub order_is : (k : ClOrdId) (es : List (ClOrdId × ℕ)) → lookup (same_id k) es ≡ option_map (λ (x : UsedId). x.order) (entry_of k.member k.id (map entry_for es))
order_is k [] = refl
order_is k (e ∷ es) = rw (same_id_swaps k e.0) (found_order _ e.1 _ (entry_for e) _ refl (order_is k es))

-- ---- an id that is placed

-- none is where none is seen
not_placed : (placed : Bool) (es : List (ClOrdId × ℕ)) (spare : ℕ) → (placed ≡ true → 0 < length es) → (list_of placed (map entry_for es) spare).placed ≡ [] → placed ≡ false
not_placed false es spare some none = refl
not_placed true es spare some none =
    absurd (omega (arith, some refl, length-map es entry_for, length-drop (length (map entry_for es) - 1) (map entry_for es), ap length none))

-- the list is then the whole map
pub settled_is : (placed : Bool) (es : List (ClOrdId × ℕ)) (spare : ℕ) (seen : IdList) → (placed ≡ true → 0 < length es) → list_of placed (map entry_for es) spare ≡ seen → seen.placed ≡ []
    → list_of false (map entry_for es) spare ≡ seen
settled_is placed es spare seen some is none =
    sym (ap (λ (b : Bool). list_of b (map entry_for es) spare) (not_placed placed es spare some (ap (λ (l : IdList). l.placed) is ∙ none))) ∙ is

-- the ids that are kept, and the one that is placed, are the map's
pub all_ids : (placed : Bool) (es : List UsedId) (spare : ℕ) → es ≡ (list_of placed es spare).entries ++ (list_of placed es spare).placed
all_ids false es spare = sym (append-nil es)
all_ids true es spare = sym (take-append-drop (length es - 1) es)

-- one more id is placed, where it is not used up
last_at : (es : List UsedId) (last : UsedId) → length (es ++ last ∷ []) - 1 ≡ length es
last_at es last = omega (arith, length-append es (last ∷ []))

module _ {S : Type 0} (m : IndexMap ClOrdId ℕ S) (k : ClOrdId) (u : ℕ) (used : Bool) (after : List (ClOrdId × ℕ)) (spare : ℕ)
    (found : used ≡ is_some (lookup (same_id k) m.entries)) (same : used ≡ true → after ≡ m.entries) (one : used ≡ false → after ≡ insert_entry same_id m.entries k u) where
  put_last : used ≡ false → map entry_for after ≡ map entry_for m.entries ++ entry_for (k, u) ∷ []
  put_last e = ap (map entry_for) (one e) ∙ pushed_last m k u (sym (held_is_used same_id same_id_swaps k m.entries) ∙ (sym found ∙ e))

  pub same_kept : (list_of (not used) (map entry_for after) spare).entries ≡ map entry_for m.entries
  same_kept =
      (elim used as (λ b. used ≡ b → (list_of (not b) (map entry_for after) spare).entries ≡ map entry_for m.entries) [
        | true ↦ λ e. ap (map entry_for) (same e)
        | false ↦ λ e. rw (put_last e, last_at (map entry_for m.entries) (entry_for (k, u))) (take-append_seam (map entry_for m.entries) (entry_for (k, u) ∷ []))
      ]) refl

  pub one_placed : used ≡ false → IsPlaced k.member k.id u (list_of (not used) (map entry_for after) spare).placed
  one_placed e =
      let is : (list_of (not used) (map entry_for after) spare).placed ≡ entry_for (k, u) ∷ [] =
      rw (e, put_last e, last_at (map entry_for m.entries) (entry_for (k, u))) (drop-append_seam (map entry_for m.entries) (entry_for (k, u) ∷ [])) in
      record { is = is; used = ap used_of is }

  -- a map with an id that is placed is not empty
  pub some_placed : not used ≡ true → 0 < length after
  some_placed e =
      let fresh : used ≡ false = not_true used e in
      omega (arith, length-map after entry_for, ap length (put_last fresh), length-append (map entry_for m.entries) (entry_for (k, u) ∷ []))
    where
      not_true : (b : Bool) → not b ≡ true → b ≡ false
      not_true true h = cc
      not_true false h = refl

-- there is no less room with it
pub room_kept : (used : Bool) (es : List UsedId) (before spare : ℕ) → before ≤ spare + (if used then 0 else 1) → before ≤ (list_of (not used) es spare).room
room_kept true es before spare h = omega arith
room_kept false es before spare h = h
