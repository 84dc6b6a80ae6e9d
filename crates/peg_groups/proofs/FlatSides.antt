-- What each call of a flat side leaves.
use Rattle.std.proofs.Common.{◌≡◌, ℕ, zero, suc, ◌<◌, true, false, List, [], ◌∷◌, ◌++◌, length, set, Option, Some, None, refl, ap, sym, ◌∙◌, subst, arith, slice_get, is_some}
use Rattle.std.specs.List.{AllByRecursion}
use Rattle.std.specs.Option.{IfSome, IsNone, MatchOption}
use Rattle.std.specs.declared.alloc.Global.{Global}
use Rattle.std.specs.declared.boxed.Box.{Box}
use Rattle.limit_tree.specs.Part.{IsLeaf, Part}
use Rattle.venue_words.specs.Conditions.{IsKey}
use Rattle.venue_words.specs.FirstRow.{IsFirst, NoneActive}
use Rattle.venue_words.specs.Peg.{peg_value, row_value, value_under}
use Rattle.venue_words.specs.Rows.{IsAbsent, insert_by_entry, row_by_entry, without_entry}
use Rattle.venue_words.specs.declared.price.Best.{Best}
use Rattle.venue_words.specs.declared.row.Key.{Key}
use Rattle.venue_words.specs.declared.row.Priced.{Priced}
use Rattle.venue_words.specs.declared.row.Row.{Row}
use Rattle.peg_groups.specs.Flat.{ArePlaces, FillsPlace, IsNodeOf, IsPlace, IsThere, KeepsStanding, TakesBest, TakesOut, place_standing, place_value, row_with, rows_in, value_if_there, with_node, without_node, place_before}
use Rattle.peg_groups.specs.Side.{IsCut, IsHeldAt, NoneAt, Standing, priced_at, standing_of, taken_row}
use Rattle.peg_groups.specs.declared.flat.Place.{Place}
use Rattle.peg_groups.specs.declared.side_book.Taken.{Taken}
use Rattle.peg_groups.proofs.FlatRows.{absent_after, in_at, out_at, places_added, rows_added}
use Rattle.peg_groups.proofs.FlatSteps.{first_before, none_active_in, none_there}
use Rattle.peg_groups.proofs.Lists.{take_all}

abbrev Held : Type 0
Held = Option (Box Part Global)

some_place : {x y : Place} → Some x ≡ Some y → x ≡ y
some_place e = cc

some_row : {x y : Priced} → Some x ≡ Some y → x ≡ y
some_row e = cc

get_append : (xs ys : List Place) (i : ℕ) (x : Place) → slice_get xs i ≡ Some x → slice_get (xs ++ ys) i ≡ Some x
get_append [] ys i x h = cc
get_append (y ∷ xs) ys zero x h = h
get_append (y ∷ xs) ys (suc i) x h = get_append xs ys i x h

set_at : (xs : List Place) (i : ℕ) (x y : Place) → slice_get xs i ≡ Some x → slice_get (set xs i y) i ≡ Some y
set_at [] i x y h = cc
set_at (z ∷ xs) zero x y h = refl
set_at (z ∷ xs) (suc i) x y h = set_at xs i x y h

-- a place that keeps the same in another one's stead
pub record KeepsAt (xs : List Place) (j : ℕ) (p : Place) : Type 0 where
  pub place : Place
  pub at : slice_get xs j ≡ Some place
  pub is : place_standing place ≡ place_standing p

keeps_at : (xs : List Place) (i j : ℕ) (old new p : Place) → slice_get xs i ≡ Some old → place_standing new ≡ place_standing old → slice_get xs j ≡ Some p → KeepsAt (set xs i new) j p
keeps_at [] i j old new p h e k = cc
keeps_at (x ∷ xs) zero zero old new p h e k = record { place = new; at = refl; is = e ∙ ap (λ (q : Place). place_standing q) (some_place (sym h ∙ k)) }
keeps_at (x ∷ xs) zero (suc j) old new p h e k = record { place = p; at = k; is = refl }
keeps_at (x ∷ xs) (suc i) zero old new p h e k = record { place = p; at = k; is = refl }
keeps_at (x ∷ xs) (suc i) (suc j) old new p h e k = let r = keeps_at xs i j old new p h e k in record { place = r.place; at = r.at; is = r.is }

pub keeps_set : (xs : List Place) (i : ℕ) (old new : Place) (s : Standing) → slice_get xs i ≡ Some old → place_standing new ≡ place_standing old → KeepsStanding xs s → KeepsStanding (set xs i new) s
keeps_set xs i old new s h e k = let r = keeps_at xs i k.i old new k.place h e k.at in record { i = k.i; place = r.place; at = r.at; is = r.is ∙ k.is }

pub keeps_append : (xs ys : List Place) (s : Standing) → KeepsStanding xs s → KeepsStanding (xs ++ ys) s
keeps_append xs ys s k = record { i = k.i; place = k.place; at = get_append xs ys k.i k.place k.at; is = k.is }

-- ---- a row enters

abbrev new_place : Box Part Global → Row → Option ℕ → Place
new_place node r value = record { node = Some node; key = r.key; cap = r.cap; entry = r.entry; value = value; time = r.entry }

entered_at : (best : Best) (node : Box Part Global) (r : Row) (value : Option ℕ) → r ≡ node.value.row → value ≡ row_value (peg_value r.key best) r.cap → row_with node value r.entry ≡ priced_at best node.value.row
unfolding value_under
entered_at best node r value e v =
    let own = v ∙ ap (λ (x : Row). row_value (peg_value x.key best) x.cap) e in
    λ i. record { row = node.value.row; value = own i; time = (e i).entry }

place_entered : (node : Box Part Global) (r : Row) (value : Option ℕ) → r ≡ node.value.row → IsKey node.value.row.key → IsLeaf node.value → IsPlace (new_place node r value) []
place_entered node r value e k l = record {
  fits_key = rw e k;
  early = omega arith;
  holds = record { key_is = ap (λ (x : Row). x.key) (sym e); cap_is = ap (λ (x : Row). x.cap) (sym e); entry_is = ap (λ (x : Row). x.entry) (sym e); alone = l };
  apart = tt;
}

pub record IsAdded (places new : List Place) (best : Best) (row : Row) : Type 0 where
  pub are : ArePlaces new
  pub rows : rows_in new ≡ insert_by_entry (priced_at best row) (rows_in places)

pub row_added : (places new : List Place) (best : Best) (node : Box Part Global) (r : Row) (value : Option ℕ) → ArePlaces places → r ≡ node.value.row → value ≡ row_value (peg_value r.key best) r.cap → IsKey node.value.row.key → IsLeaf node.value → AllByRecursion (λ x. x.time < node.value.row.entry) (rows_in places) → new ≡ places ++ new_place node r value ∷ [] → IsAdded places new best node.value.row
row_added places new best node r value a e v k l later left =
    let absent = absent_after places node.value.row.entry a later in
    record {
      are = rw left (places_added places (new_place node r value) node refl absent (place_entered node r value e k l) a);
      rows = ap rows_in left ∙ rows_added places (new_place node r value) node refl absent ∙ ap (λ (x : Priced). insert_by_entry x (rows_in places)) (entered_at best node r value e v);
    }

-- ---- a row comes back

pub record IsBack (places new : List Place) (taken : Taken) : Type 0 where
  pub are : ArePlaces new
  pub rows : rows_in new ≡ insert_by_entry (taken_row taken) (rows_in places)
  pub keeps : (s : Standing) → KeepsStanding places s → KeepsStanding new s

pub row_back : (places new : List Place) (taken : Taken) → ArePlaces places → IsLeaf taken.node.value → IsAbsent taken.node.value.row.entry (rows_in places) → FillsPlace taken places new → IsBack places new taken
row_back places new taken a l absent f =
    let kept = f.kept in
    let is : IsNodeOf f.place taken.node.value = record { key_is = ap (λ (s : Standing). s.key) (sym kept); cap_is = ap (λ (s : Standing). s.cap) (sym kept); entry_is = ap (λ (s : Standing). s.entry) (sym kept); alone = l } in
    let r = in_at places f.i f.place taken.node a f.at absent is in
    let value : f.place.value ≡ taken.value = ap (λ (s : Standing). s.value) kept in
    let time : f.place.time ≡ taken.time = ap (λ (s : Standing). s.time) kept in
    let same : row_with taken.node f.place.value f.place.time ≡ taken_row taken = λ i. record { row = taken.node.value.row; value = value i; time = time i } in
    record {
      are = rw f.left r.are;
      rows = ap rows_in f.left ∙ r.rows ∙ ap (λ (x : Priced). insert_by_entry x (rows_in places)) same;
      keeps = λ s k. rw f.left (keeps_set places f.i f.place (with_node taken.node f.place) s f.at refl k);
    }

-- ---- a row leaves

kept_standing : (p : Place) (node : Box Part Global) → IsNodeOf p node.value → place_standing p ≡ standing_of (row_with node p.value p.time)
kept_standing p node is =
    let key = sym is.key_is in
    let cap = sym is.cap_is in
    let entry = sym is.entry_is in
    λ i. record { key = key i; cap = cap i; entry = entry i; value = p.value; time = p.time }

pub record CutOutcome (places new : List Place) (best : Best) (event : ℕ) (key : Key) (cap entry : ℕ) (o : Option (Box Part Global)) : Type 0 where
  pub are : ArePlaces new
  pub found : MatchOption o (rows_in new ≡ rows_in places) (λ node. IsCut key cap entry (record { rows = rows_in places; best = best; event = event }) (record { rows = rows_in new; best = best; event = event }) node.value.row)
  pub none : IsNone o → NoneAt key cap entry (rows_in places)
  pub alone : IfSome o (λ node. IsLeaf node.value)
  pub fits : IfSome o (λ _. (row : Priced) → IsHeldAt key cap entry (rows_in places) row → KeepsStanding new (standing_of row))
  pub keeps : (s : Standing) → KeepsStanding places s → KeepsStanding new s

pub cut_outcome : (places new : List Place) (best : Best) (event : ℕ) (key : Key) (cap entry : ℕ) (o : Option (Box Part Global)) → ArePlaces places → MatchOption o (AllByRecursion (λ place. IsThere key cap entry place → ⊥) places × (new ≡ places)) (λ node. TakesOut key cap entry node places new) → CutOutcome places new best event key cap entry o
cut_outcome places new best event key cap entry None a m =
    rw m.1 (record { are = a; found = refl; none = λ _. none_there key cap entry places a m.0; alone = tt; fits = tt; keeps = λ s k. k })
cut_outcome places new best event key cap entry (Some node) a m =
    let r = out_at places m.i m.place node a m.at m.node_is in
    let e : node.value.row.entry ≡ entry = r.is.entry_is ∙ m.there.entry_is in
    let held : row_by_entry entry (rows_in places) ≡ Some (row_with node m.place.value m.place.time) = subst (λ (n : ℕ). row_by_entry n (rows_in places) ≡ Some (row_with node m.place.value m.place.time)) e r.held in
    let left : rows_in new ≡ without_entry entry (rows_in places) = ap rows_in m.left ∙ r.rows ∙ ap (λ (n : ℕ). without_entry n (rows_in places)) e in
    record {
      are = rw m.left r.are;
      found = record {
        taken = row_with node m.place.value m.place.time;
        is = refl;
        held = record { held = held; placed = record { key_is = r.is.key_is ∙ m.there.key_is; cap_is = r.is.cap_is ∙ m.there.cap_is; entry_is = e } };
        left = ap (λ (rows : List Priced). record { rows = rows; best = best; event = event }) left;
      };
      none = λ x. cc;
      alone = r.is.alone;
      fits = λ row h.
          let same : row ≡ row_with node m.place.value m.place.time = some_row (sym h.held ∙ held) in
          rw (same, m.left) (record { i = m.i; place = without_node m.place; at = set_at places m.i m.place (without_node m.place) m.at; is = kept_standing m.place node r.is });
      keeps = λ s k. rw m.left (keeps_set places m.i m.place (without_node m.place) s m.at refl k);
    }

pub record BestOutcome (places new : List Place) (o : Option Taken) : Type 0 where
  pub are : ArePlaces new
  pub none : IsNone o → NoneActive (rows_in places)
  pub same : IsNone o → new ≡ places
  pub best : IfSome o (λ taken. IsFirst (rows_in places) (taken_row taken))
  pub left : IfSome o (λ taken. rows_in new ≡ without_entry taken.node.value.row.entry (rows_in places))
  pub alone : IfSome o (λ taken. IsLeaf taken.node.value)
  pub fits : IfSome o (λ taken. KeepsStanding new (standing_of (taken_row taken)))
  pub keeps : (s : Standing) → KeepsStanding places s → KeepsStanding new s

pub best_outcome : (places new : List Place) (o : Option Taken) → ArePlaces places → (IsNone o → AllByRecursion (λ place. place_value place ≡ None) places × (new ≡ places)) → IfSome o (TakesBest places new) → BestOutcome places new o
best_outcome places new None a n f =
    let k = n refl in
    rw k.1 (record { are = a; none = λ _. none_active_in places k.0; same = λ _. refl; best = tt; left = tt; alone = tt; fits = tt; keeps = λ s k. k })
best_outcome places new (Some taken) a n t =
    let p = t.best.place in
    let r = out_at places t.i p taken.node a t.best.at t.node_is in
    let there : place_value p ≡ p.value = ap (λ (h : Held). value_if_there h p.value) t.node_is in
    let value : taken.value ≡ p.value = t.value_is in
    let time : taken.time ≡ p.time = t.time_is in
    let same : taken_row taken ≡ row_with taken.node p.value p.time = λ i. record { row = taken.node.value.row; value = value i; time = time i } in
    record {
      are = rw t.left r.are;
      none = λ x. cc;
      same = λ x. cc;
      best = subst (λ (x : Priced). IsFirst (rows_in places) x) (sym same) (record {
        active = (t.best.active.0, sym there ∙ t.best.active.1);
        held = r.held;
        first = first_before places p taken.node a t.node_is r.is (take_all (λ (other : Place). place_before other p ≡ false) places (length places) refl t.best.first);
      });
      left = ap rows_in t.left ∙ r.rows;
      alone = r.is.alone;
      fits = subst (λ (x : Priced). KeepsStanding new (standing_of x)) (sym same) (rw t.left (record { i = t.i; place = without_node p; at = set_at places t.i p (without_node p) t.best.at; is = kept_standing p taken.node r.is }));
      keeps = λ s k. rw t.left (keeps_set places t.i p (without_node p) s t.best.at refl k);
    }

node_there : (h : Held) → is_some h ≡ true → (node : Box Part Global) × (h ≡ Some node)
node_there None e = cc
node_there (Some node) e = (node, refl)

pub priced_outcome : (places : List Place) (key : Key) (cap entry : ℕ) (o : Option (Option ℕ × ℕ)) → ArePlaces places → MatchOption o (AllByRecursion (λ place. IsThere key cap entry place → ⊥) places) (λ pair. (i : ℕ) × (place : Place) × (slice_get places i ≡ Some place) × IsThere key cap entry place × (place.value ≡ pair.0) × (place.time ≡ pair.1)) → MatchOption o (NoneAt key cap entry (rows_in places)) (λ pair. (row : Priced) × IsHeldAt key cap entry (rows_in places) row × (row.value ≡ pair.0) × (row.time ≡ pair.1))
priced_outcome places key cap entry None a m = none_there key cap entry places a m
priced_outcome places key cap entry (Some pair) a m =
    let n = node_there m.1.node m.3.filled in
    let r = out_at places m.0 m.1 n.0 a m.2 n.1 in
    let e : n.0.value.row.entry ≡ entry = r.is.entry_is ∙ m.3.entry_is in (
      row_with n.0 m.1.value m.1.time,
      record { held = subst (λ (k : ℕ). row_by_entry k (rows_in places) ≡ Some (row_with n.0 m.1.value m.1.time)) e r.held; placed = record { key_is = r.is.key_is ∙ m.3.key_is; cap_is = r.is.cap_is ∙ m.3.cap_is; entry_is = e } },
      m.4,
      m.5,
    )

pub place_keys : (places : List Place) → ArePlaces places → AllByRecursion (λ place. IsKey place.key) places
place_keys [] a = tt
place_keys (p ∷ ps) a = (a.0.fits_key, place_keys ps a.1)
