-- A flat side after each of its calls.
use Rattle.std.proofs.Common.{◌≡◌, ℕ, suc, ◌+◌, ◌<◌, ◌≤◌, Bool, true, false, not, ◌&&◌, ◌||◌, cond, List, [], ◌∷◌, length, map, filter, Option, Some, None, refl, ap, sym, ◌∙◌, subst, arith, is_some, nat_eq}
use Rattle.std.specs.List.{AllByRecursion, list_any}
use Rattle.std.specs.Option.{MatchOption, option_eq}
use Rattle.std.specs.declared.alloc.Global.{Global}
use Rattle.std.specs.declared.boxed.Box.{Box}
use Rattle.limit_tree.specs.Part.{Part}
use Rattle.venue_words.specs.FirstRow.{NoneActive}
use Rattle.venue_words.specs.Key.{same_key}
use Rattle.venue_words.specs.Peg.{peg_value, row_value, value_under}
use Rattle.venue_words.specs.Priority.{before, is_ahead_if_active}
use Rattle.venue_words.specs.Retime.{reprice, retime}
use Rattle.venue_words.specs.Rows.{IsAbsent, insert_by_entry}
use Rattle.venue_words.specs.declared.price.Best.{Best}
use Rattle.venue_words.specs.declared.row.Key.{Key}
use Rattle.venue_words.specs.declared.row.Priced.{Priced}
use Rattle.peg_groups.specs.Flat.{ArePlaces, IsNodeOf, IsPlace, IsThere, among, is_filled, place_before, place_value, repriced, row_with, rows_in, value_if_there}
use Rattle.peg_groups.specs.KeyCount.{has_key, key_count}
use Rattle.peg_groups.specs.Merge.{map-insert}
use Rattle.peg_groups.specs.Side.{IsRowAt, NoneAt}
use Rattle.peg_groups.specs.declared.flat.Place.{Place}
use Rattle.peg_groups.proofs.Counting.{length_insert}
use Rattle.peg_groups.proofs.FlatRows.{among_each, each_among}
use Rattle.peg_groups.proofs.KeyCounts.{count_insert, has_insert}
use Rattle.peg_groups.proofs.Repricing.{retime_entry}

abbrev Held : Type 0
Held = Option (Box Part Global)

-- ---- no row of a key, a cap and an entry

not_placed : (held : Held) (p : Place) (key : Key) (cap entry : ℕ) → p.node ≡ held → MatchOption held (Unit {0}) (λ n. IsNodeOf p n.value) → (IsThere key cap entry p → ⊥) → MatchOption held (Unit {0}) (λ n. IsRowAt key cap entry (row_with n p.value p.time) → ⊥)
not_placed None p key cap entry e h f = tt
not_placed (Some n) p key cap entry e h f =
    λ x. f (record { filled = ap is_some e; key_is = sym h.key_is ∙ x.key_is; cap_is = sym h.cap_is ∙ x.cap_is; entry_is = sym h.entry_is ∙ x.entry_is })

pub none_there : (key : Key) (cap entry : ℕ) (places : List Place) → ArePlaces places → AllByRecursion (λ place. IsThere key cap entry place → ⊥) places → NoneAt key cap entry (rows_in places)
none_there key cap entry [] a f = tt
none_there key cap entry (p ∷ ps) a f =
    each_among (λ row. IsRowAt key cap entry row → ⊥) p.node p.value p.time (rows_in ps) (not_placed p.node p key cap entry refl a.0.holds f.0) (none_there key cap entry ps a.1 f.1)

-- ---- the first row by priority

inactive_node : (held : Held) (value : Option ℕ) (time : ℕ) → value_if_there held value ≡ None → MatchOption held (Unit {0}) (λ n. value ≡ None)
inactive_node None value time e = tt
inactive_node (Some n) value time e = e

pub none_active_in : (places : List Place) → AllByRecursion (λ place. place_value place ≡ None) places → NoneActive (rows_in places)
none_active_in [] a = tt
none_active_in (p ∷ ps) a = each_among (λ row. row.value ≡ None) p.node p.value p.time (rows_in ps) (inactive_node p.node p.value p.time a.0) (none_active_in ps a.1)

behind_node : (held : Held) (p : Place) (value : Option ℕ) (time entry : ℕ) → MatchOption held (Unit {0}) (λ n. IsNodeOf p n.value) → is_ahead_if_active (value_if_there held p.value) p.time p.entry value time entry ≡ false → MatchOption held (Unit {0}) (λ n. is_ahead_if_active p.value p.time n.value.row.entry value time entry ≡ false)
behind_node None p value time entry h f = tt
behind_node (Some n) p value time entry h f = subst (λ (e : ℕ). is_ahead_if_active p.value p.time e value time entry ≡ false) (sym h.entry_is) f

none_before : (places : List Place) (value : Option ℕ) (time entry : ℕ) → ArePlaces places → AllByRecursion (λ other. is_ahead_if_active (place_value other) other.time other.entry value time entry ≡ false) places → AllByRecursion (λ row. is_ahead_if_active row.value row.time row.row.entry value time entry ≡ false) (rows_in places)
none_before [] value time entry a f = tt
none_before (p ∷ ps) value time entry a f =
    each_among (λ row. is_ahead_if_active row.value row.time row.row.entry value time entry ≡ false) p.node p.value p.time (rows_in ps) (behind_node p.node p value time entry a.0.holds f.0) (none_before ps value time entry a.1 f.1)

pub first_before : (places : List Place) (p : Place) (node : Box Part Global) → ArePlaces places → p.node ≡ Some node → IsNodeOf p node.value → AllByRecursion (λ other. place_before other p ≡ false) places → AllByRecursion (λ other. before other (row_with node p.value p.time) ≡ false) (rows_in places)
first_before places p node a e is f =
    let there : place_value p ≡ p.value = ap (λ (h : Held). value_if_there h p.value) e in
    subst (λ (n : ℕ). AllByRecursion (λ other. is_ahead_if_active other.value other.time other.row.entry p.value p.time n ≡ false) (rows_in places)) (sym is.entry_is)
    (none_before places p.value p.time p.entry a
    (subst (λ (v : Option ℕ). AllByRecursion (λ other. is_ahead_if_active (place_value other) other.time other.entry v p.time p.entry ≡ false) places) there f))

-- ---- a quote

-- a place with these parts
abbrev made : Held → Key → ℕ → ℕ → Option ℕ → ℕ → Place
made held key cap entry value time = record { node = held; key = key; cap = cap; entry = entry; value = value; time = time }

repriced_among : (event : ℕ) (best : Best) (held : Held) (key : Key) (cap entry : ℕ) (value : Option ℕ) (time : ℕ) (rows : List Priced) → MatchOption held (Unit {0}) (λ n. IsNodeOf (made held key cap entry value time) n.value) → among (repriced event best (made held key cap entry value time)).node (repriced event best (made held key cap entry value time)).value (repriced event best (made held key cap entry value time)).time (map (retime event best) rows) ≡ map (retime event best) (among held value time rows)
unfolding retime value_under
repriced_among event best None key cap entry value time rows h = refl
repriced_among event best (Some n) key cap entry value time rows h =
    let same : row_value (peg_value n.value.row.key best) n.value.row.cap ≡ row_value (peg_value key best) cap = ap (λ (k : Key). row_value (peg_value k best) n.value.row.cap) h.key_is ∙ ap (λ (c : ℕ). row_value (peg_value key best) c) h.cap_is in
    sym (map-insert (retime event best) (retime_entry event best) (row_with n value time) rows
    ∙ subst (λ (v : Option ℕ). insert_by_entry (cond (option_eq nat_eq v value) (row_with n value time) (record { row = n.value.row; value = v; time = event })) (map (retime event best) rows) ≡ among (repriced event best (made (Some n) key cap entry value time)).node (repriced event best (made (Some n) key cap entry value time)).value (repriced event best (made (Some n) key cap entry value time)).time (map (retime event best) rows)) (sym same)
    (elim (option_eq nat_eq (row_value (peg_value key best) cap) value) as (λ b. insert_by_entry (cond b (row_with n value time) (record { row = n.value.row; value = row_value (peg_value key best) cap; time = event })) (map (retime event best) rows) ≡ among (cond b (made (Some n) key cap entry value time) (made (Some n) key cap entry (row_value (peg_value key best) cap) event)).node (cond b (made (Some n) key cap entry value time) (made (Some n) key cap entry (row_value (peg_value key best) cap) event)).value (cond b (made (Some n) key cap entry value time) (made (Some n) key cap entry (row_value (peg_value key best) cap) event)).time (map (retime event best) rows)) [ true ↦ refl | false ↦ refl ]))

pub rows_repriced_in : (event : ℕ) (best : Best) (places : List Place) → ArePlaces places → rows_in (map (repriced event best) places) ≡ reprice event best (rows_in places)
unfolding reprice
rows_repriced_in event best [] a = refl
rows_repriced_in event best (p ∷ ps) a =
    ap (λ (rows : List Priced). among (repriced event best p).node (repriced event best p).value (repriced event best p).time rows) (rows_repriced_in event best ps a.1)
    ∙ repriced_among event best p.node p.key p.cap p.entry p.value p.time (rows_in ps) a.0.holds

absent_repriced : (event : ℕ) (best : Best) (n : ℕ) (rows : List Priced) → IsAbsent n rows → IsAbsent n (map (retime event best) rows)
absent_repriced event best n [] a = tt
absent_repriced event best n (p ∷ rows) a = ((λ e. a.0 (sym (retime_entry event best p) ∙ e)), absent_repriced event best n rows a.1)

place_repriced : (event : ℕ) (best : Best) (held : Held) (key : Key) (cap entry : ℕ) (value : Option ℕ) (time : ℕ) (rows : List Priced) → IsPlace (made held key cap entry value time) rows → MatchOption held (Unit {0}) (λ n. n.value.row.entry < event) → IsPlace (repriced event best (made held key cap entry value time)) (map (retime event best) rows)
place_repriced event best None key cap entry value time rows a l = record { fits_key = a.fits_key; early = a.early; holds = tt; apart = tt }
place_repriced event best (Some n) key cap entry value time rows a l =
    let same : n.value.row.entry ≡ entry = a.holds.entry_is in
    let holds = a.holds in
    elim (option_eq nat_eq (row_value (peg_value key best) cap) value) as (λ b. IsPlace (cond b (made (Some n) key cap entry value time) (made (Some n) key cap entry (row_value (peg_value key best) cap) event)) (map (retime event best) rows)) [
      | true ↦ record { fits_key = a.fits_key; early = a.early; holds = a.holds; apart = absent_repriced event best n.value.row.entry rows a.apart }
      | false ↦ record { fits_key = a.fits_key; early = omega arith; holds = record { key_is = holds.key_is; cap_is = holds.cap_is; entry_is = holds.entry_is; alone = holds.alone }; apart = absent_repriced event best n.value.row.entry rows a.apart }
    ]

pub places_repriced : (event : ℕ) (best : Best) (places : List Place) → ArePlaces places → AllByRecursion (λ row. row.row.entry < event) (rows_in places) → ArePlaces (map (repriced event best) places)
unfolding reprice
places_repriced event best [] a l = tt
places_repriced event best (p ∷ ps) a l =
    let e = among_each (λ row. row.row.entry < event) p.node p.value p.time (rows_in ps) l in
    (rw (rows_repriced_in event best ps a.1) (place_repriced event best p.node p.key p.cap p.entry p.value p.time (rows_in ps) a.0 e.0), places_repriced event best ps a.1 e.1)

-- ---- the places with a row

pub rows_filled : (places : List Place) → rows_in (filter is_filled places) ≡ rows_in places
rows_filled [] = refl
rows_filled (p ∷ ps) = go p.node (rows_filled ps) refl where
  go : (held : Held) → rows_in (filter is_filled ps) ≡ rows_in ps → p.node ≡ held → rows_in (cond (is_some p.node) (p ∷ filter is_filled ps) (filter is_filled ps)) ≡ among p.node p.value p.time (rows_in ps)
  go None k e = rw e k
  go (Some n) k e = subst (λ (b : Bool). rows_in (cond b (p ∷ filter is_filled ps) (filter is_filled ps)) ≡ among p.node p.value p.time (rows_in ps)) (sym (ap is_some e)) (ap (λ (rows : List Priced). among p.node p.value p.time rows) k)

pub places_filled : (places : List Place) → ArePlaces places → ArePlaces (filter is_filled places)
places_filled [] a = tt
places_filled (p ∷ ps) a =
    elim (is_some p.node) as (λ b. ArePlaces (cond b (p ∷ filter is_filled ps) (filter is_filled ps))) [
      | true ↦ (rw (rows_filled ps) a.0, places_filled ps a.1)
      | false ↦ places_filled ps a.1
    ]

pub length_filled : (places : List Place) → length (filter is_filled places) ≤ length places
length_filled [] = omega arith
length_filled (p ∷ ps) =
    let h : length (filter is_filled ps) ≤ length ps = length_filled ps in
    elim (is_some p.node) as (λ b. length (cond b (p ∷ filter is_filled ps) (filter is_filled ps)) ≤ suc (length ps)) [ true ↦ omega arith | false ↦ omega arith ]

pub rows_few : (places : List Place) → length (rows_in places) ≤ length places
rows_few [] = omega arith
rows_few (p ∷ ps) = go p.node (rows_few ps) where
  go : (held : Held) → length (rows_in ps) ≤ length ps → length (among held p.value p.time (rows_in ps)) ≤ suc (length ps)
  go None h = omega arith
  go (Some n) h = omega (arith, length_insert (row_with n p.value p.time) (rows_in ps))

-- ---- how many rows and keys

pub length_place : (p : Place) (ps : List Place) → length (rows_in (p ∷ ps)) ≡ cond (is_filled p) (length (rows_in ps) + 1) (length (rows_in ps))
length_place p ps = go p.node where
  go : (held : Held) → length (among held p.value p.time (rows_in ps)) ≡ cond (is_some held) (length (rows_in ps) + 1) (length (rows_in ps))
  go None = refl
  go (Some n) = omega (arith, length_insert (row_with n p.value p.time) (rows_in ps))

has_among : (held : Held) (p : Place) (key : Key) (rows : List Priced) (found : Bool) → MatchOption held (Unit {0}) (λ n. IsNodeOf p n.value) → has_key key rows ≡ found → has_key key (among held p.value p.time rows) ≡ (is_some held && same_key key p.key || found)
has_among None p key rows found h e = e
has_among (Some n) p key rows found h e = has_insert key (row_with n p.value p.time) rows ∙ ap (λ (k : Key). same_key key k || has_key key rows) h.key_is ∙ ap (λ (b : Bool). same_key key p.key || b) e

pub has_key_in : (key : Key) (places : List Place) → ArePlaces places → has_key key (rows_in places) ≡ list_any (λ place. is_filled place && same_key key place.key) places
has_key_in key [] a = refl
has_key_in key (p ∷ ps) a = has_among p.node p key (rows_in ps) _ a.0.holds (has_key_in key ps a.1)

pub keys_place : (p : Place) (ps : List Place) → ArePlaces (p ∷ ps) → key_count (rows_in (p ∷ ps)) ≡ cond (is_filled p && not (list_any (λ place. is_filled place && same_key p.key place.key) ps)) (key_count (rows_in ps) + 1) (key_count (rows_in ps))
keys_place p ps a = go p.node a.0.holds where
  turned : (b : Bool) (n : ℕ) → cond b n (1 + n) ≡ cond (not b) (n + 1) n
  turned true n = refl
  turned false n = omega arith

  go : (held : Held) → MatchOption held (Unit {0}) (λ n. IsNodeOf p n.value) → key_count (among held p.value p.time (rows_in ps)) ≡ cond (is_some held && not (list_any (λ place. is_filled place && same_key p.key place.key) ps)) (key_count (rows_in ps) + 1) (key_count (rows_in ps))
  go None h = refl
  go (Some n) h =
      count_insert (row_with n p.value p.time) (rows_in ps)
      ∙ ap (λ (b : Bool). cond b (key_count (rows_in ps)) (1 + key_count (rows_in ps))) (ap (λ (k : Key). has_key k (rows_in ps)) h.key_is ∙ has_key_in p.key ps a.1)
      ∙ turned (list_any (λ place. is_filled place && same_key p.key place.key) ps) (key_count (rows_in ps))
