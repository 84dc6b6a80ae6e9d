-- The rows of a flat side, when a row enters a place or leaves it.
use Rattle.std.proofs.Common.{◌≡◌, ℕ, zero, suc, ◌<◌, ◌≤◌, true, false, cond, eqb, List, [], ◌∷◌, ◌++◌, set, Option, Some, None, refl, ap, sym, ◌∙◌, subst, arith, slice_get}
use Rattle.std.proofs.lemmas.Bool.{eqb-true}
use Rattle.std.specs.List.{AllByRecursion}
use Rattle.std.specs.Option.{MatchOption}
use Rattle.std.specs.declared.alloc.Global.{Global}
use Rattle.std.specs.declared.boxed.Box.{Box}
use Rattle.limit_tree.specs.Part.{Part}
use Rattle.venue_words.specs.ListLaws.{all_both}
use Rattle.venue_words.specs.Rows.{IsAbsent, IsByEntry, insert_by_entry, row_by_entry, without_entry}
use Rattle.venue_words.specs.declared.row.Priced.{Priced}
use Rattle.peg_groups.specs.Flat.{ArePlaces, IsNodeOf, IsPlace, among, row_with, rows_in, with_node, without_node}
use Rattle.peg_groups.specs.Merge.{by_entry_insert, each_insert, each_inserted, insert_swap, row_of_insert, row_of_inserted, without_insert, without_inserted}
use Rattle.peg_groups.specs.declared.flat.Place.{Place}
use Rattle.peg_groups.proofs.GroupSteps.{without_absent}

abbrev Held : Type 0
Held = Option (Box Part Global)

some_place : {x y : Place} → Some x ≡ Some y → x ≡ y
some_place e = cc

-- what holds of the row of a place and of each other one
pub each_among : (P : Priced → Type 0) (node : Held) (value : Option ℕ) (time : ℕ) (rows : List Priced) → MatchOption node (Unit {0}) (λ n. P (row_with n value time)) → AllByRecursion P rows → AllByRecursion P (among node value time rows)
each_among P None value time rows h a = a
each_among P (Some n) value time rows h a = each_insert P (row_with n value time) rows h a

pub among_each : (P : Priced → Type 0) (node : Held) (value : Option ℕ) (time : ℕ) (rows : List Priced) → AllByRecursion P (among node value time rows) → MatchOption node (Unit {0}) (λ n. P (row_with n value time)) × AllByRecursion P rows
among_each P None value time rows a = (tt, a)
among_each P (Some n) value time rows a = each_inserted P (row_with n value time) rows a

by_entry_among : (node : Held) (value : Option ℕ) (time : ℕ) (rows : List Priced) → MatchOption node (Unit {0}) (λ n. IsAbsent n.value.row.entry rows) → IsByEntry rows → IsByEntry (among node value time rows)
by_entry_among None value time rows h o = o
by_entry_among (Some n) value time rows h o = by_entry_insert (row_with n value time) rows o h

pub by_entry_places : (places : List Place) → ArePlaces places → IsByEntry (rows_in places)
by_entry_places [] a = tt
by_entry_places (p ∷ ps) a = by_entry_among p.node p.value p.time (rows_in ps) a.0.apart (by_entry_places ps a.1)

-- no row is older than its entry
early_node : (node : Held) (p : Place) → MatchOption node (Unit {0}) (λ n. IsNodeOf p n.value) → p.entry ≤ p.time → MatchOption node (Unit {0}) (λ n. n.value.row.entry ≤ p.time)
early_node None p h e = tt
early_node (Some n) p h e = let same : n.value.row.entry ≡ p.entry = h.entry_is in omega arith

pub early_rows_in : (places : List Place) → ArePlaces places → AllByRecursion (λ r. r.row.entry ≤ r.time) (rows_in places)
early_rows_in [] a = tt
early_rows_in (p ∷ ps) a = each_among (λ r. r.row.entry ≤ r.time) p.node p.value p.time (rows_in ps) (early_node p.node p a.0.holds a.0.early) (early_rows_in ps a.1)

pub absent_after : (places : List Place) (n : ℕ) → ArePlaces places → AllByRecursion (λ r. r.time < n) (rows_in places) → IsAbsent n (rows_in places)
absent_after places n a l = all_both {A = Priced} (λ r. r.time < n) (λ r. r.row.entry ≤ r.time) (λ r. r.row.entry ≡ n → ⊥) (λ r x y z. omega arith) (rows_in places) l (early_rows_in places a)

pub entries_early : (places : List Place) (n : ℕ) → ArePlaces places → AllByRecursion (λ r. r.time < n) (rows_in places) → AllByRecursion (λ r. r.row.entry < n) (rows_in places)
entries_early places n a l = all_both {A = Priced} (λ r. r.time < n) (λ r. r.row.entry ≤ r.time) (λ r. r.row.entry < n) (λ r x y. omega arith) (rows_in places) l (early_rows_in places a)

-- ---- a row enters

among_insert : (node : Held) (value : Option ℕ) (time : ℕ) (r : Priced) (rows : List Priced) → IsAbsent r.row.entry (among node value time rows) → among node value time (insert_by_entry r rows) ≡ insert_by_entry r (among node value time rows)
among_insert None value time r rows a = refl
among_insert (Some n) value time r rows a = insert_swap (row_with n value time) r rows (each_inserted (λ x. x.row.entry ≡ r.row.entry → ⊥) (row_with n value time) rows a).0

apart_insert : (node : Held) (value : Option ℕ) (time : ℕ) (r : Priced) (rows : List Priced) → MatchOption node (Unit {0}) (λ n. IsAbsent n.value.row.entry rows) → IsAbsent r.row.entry (among node value time rows) → MatchOption node (Unit {0}) (λ n. IsAbsent n.value.row.entry (insert_by_entry r rows))
apart_insert None value time r rows h a = tt
apart_insert (Some n) value time r rows h a =
    each_insert (λ x. x.row.entry ≡ n.value.row.entry → ⊥) r rows (λ e. (each_inserted (λ x. x.row.entry ≡ r.row.entry → ⊥) (row_with n value time) rows a).0 (sym e)) h

others_absent : (p : Place) (n : ℕ) (rows : List Priced) → IsAbsent n (among p.node p.value p.time rows) → IsAbsent n rows
others_absent p n rows a = (among_each (λ x. x.row.entry ≡ n → ⊥) p.node p.value p.time rows a).1

-- a new place behind the others
pub rows_added : (places : List Place) (p : Place) (node : Box Part Global) → p.node ≡ Some node → IsAbsent node.value.row.entry (rows_in places) → rows_in (places ++ p ∷ []) ≡ insert_by_entry (row_with node p.value p.time) (rows_in places)
rows_added [] p node e a = ap (λ (h : Held). among h p.value p.time []) e
rows_added (q ∷ ps) p node e a =
    ap (λ (rows : List Priced). among q.node q.value q.time rows) (rows_added ps p node e (others_absent q node.value.row.entry (rows_in ps) a))
    ∙ among_insert q.node q.value q.time (row_with node p.value p.time) (rows_in ps) a

pub places_added : (places : List Place) (p : Place) (node : Box Part Global) → p.node ≡ Some node → IsAbsent node.value.row.entry (rows_in places) → IsPlace p [] → ArePlaces places → ArePlaces (places ++ p ∷ [])
places_added [] p node e a is rest = (is, tt)
places_added (q ∷ ps) p node e a is rest = (
  record {
    fits_key = rest.0.fits_key;
    early = rest.0.early;
    holds = rest.0.holds;
    apart = rw (rows_added ps p node e (others_absent q node.value.row.entry (rows_in ps) a)) (apart_insert q.node q.value q.time (row_with node p.value p.time) (rows_in ps) rest.0.apart a);
  },
  places_added ps p node e (others_absent q node.value.row.entry (rows_in ps) a) is rest.1,
)

-- a row is in its place again
pub record IsIn (places : List Place) (i : ℕ) (place : Place) (node : Box Part Global) : Type 0 where
  pub rows : rows_in (set places i (with_node node place)) ≡ insert_by_entry (row_with node place.value place.time) (rows_in places)
  pub are : ArePlaces (set places i (with_node node place))

was_free : (held : Held) (p : Place) (node : Box Part Global) (rows : List Priced) → MatchOption held (Unit {0}) (λ n. IsNodeOf p n.value) → IsNodeOf p node.value → IsAbsent node.value.row.entry (among held p.value p.time rows) → among held p.value p.time rows ≡ rows
was_free None p node rows h is a = refl
was_free (Some n) p node rows h is a = absurd ((each_inserted (λ x. x.row.entry ≡ node.value.row.entry → ⊥) (row_with n p.value p.time) rows a).0 (h.entry_is ∙ sym is.entry_is))

in_first : (p : Place) (ps : List Place) (node : Box Part Global) → IsPlace p (rows_in ps) → ArePlaces ps → IsAbsent node.value.row.entry (rows_in (p ∷ ps)) → IsNodeOf p node.value → IsIn (p ∷ ps) zero p node
in_first p ps node a rest absent is = record {
  rows = ap (λ (rows : List Priced). insert_by_entry (row_with node p.value p.time) rows) (sym (was_free p.node p node (rows_in ps) a.holds is absent));
  are = (record { fits_key = a.fits_key; early = a.early; holds = record { key_is = is.key_is; cap_is = is.cap_is; entry_is = is.entry_is; alone = is.alone }; apart = others_absent p node.value.row.entry (rows_in ps) absent }, rest);
}

pub in_at : (places : List Place) (i : ℕ) (place : Place) (node : Box Part Global) → ArePlaces places → slice_get places i ≡ Some place → IsAbsent node.value.row.entry (rows_in places) → IsNodeOf place node.value → IsIn places i place node
in_at [] i place node a h absent is = cc
in_at (p ∷ ps) zero place node a h absent is =
    let e : p ≡ place = some_place h in
    subst (λ (x : Place). IsIn (p ∷ ps) zero x node) e (in_first p ps node a.0 a.1 absent (rw e is))
in_at (p ∷ ps) (suc i) place node a h absent is =
    let r = in_at ps i place node a.1 h (others_absent p node.value.row.entry (rows_in ps) absent) is in
    record {
      rows = ap (λ (rows : List Priced). among p.node p.value p.time rows) r.rows ∙ among_insert p.node p.value p.time (row_with node place.value place.time) (rows_in ps) absent;
      are = (record { fits_key = a.0.fits_key; early = a.0.early; holds = a.0.holds; apart = rw r.rows (apart_insert p.node p.value p.time (row_with node place.value place.time) (rows_in ps) a.0.apart absent) }, r.are);
    }

-- ---- a row leaves

absent_found : (n entry : ℕ) (rows : List Priced) (x : Priced) → IsAbsent n rows → row_by_entry entry rows ≡ Some x → n ≡ entry → ⊥
absent_found n entry [] x a h e = cc
absent_found n entry (f ∷ rows) x a h e =
    (elim (eqb f.row.entry entry) as (λ v. eqb f.row.entry entry ≡ v → cond v (Some f) (row_by_entry entry rows) ≡ Some x → ⊥) [
      | true ↦ λ t k. a.0 (eqb-true f.row.entry entry t ∙ sym e)
      | false ↦ λ t k. absent_found n entry rows x a.1 k e
    ]) refl h

differs : (held : Held) (entry : ℕ) (rows : List Priced) (x : Priced) → MatchOption held (Unit {0}) (λ n. IsAbsent n.value.row.entry rows) → row_by_entry entry rows ≡ Some x → MatchOption held (Unit {0}) (λ n. n.value.row.entry ≡ entry → ⊥)
differs None entry rows x a h = tt
differs (Some n) entry rows x a h = absent_found n.value.row.entry entry rows x a h

row_among : (held : Held) (value : Option ℕ) (time entry : ℕ) (rows : List Priced) → MatchOption held (Unit {0}) (λ n. n.value.row.entry ≡ entry → ⊥) → row_by_entry entry (among held value time rows) ≡ row_by_entry entry rows
row_among None value time entry rows d = refl
row_among (Some n) value time entry rows d = row_of_insert entry (row_with n value time) rows d

without_among : (held : Held) (value : Option ℕ) (time entry : ℕ) (rows : List Priced) → MatchOption held (Unit {0}) (λ n. n.value.row.entry ≡ entry → ⊥) → IsByEntry rows → among held value time (without_entry entry rows) ≡ without_entry entry (among held value time rows)
without_among None value time entry rows d o = refl
without_among (Some n) value time entry rows d o = without_insert entry (row_with n value time) rows d o

apart_without : (held : Held) (entry : ℕ) (rows : List Priced) → MatchOption held (Unit {0}) (λ n. IsAbsent n.value.row.entry rows) → MatchOption held (Unit {0}) (λ n. IsAbsent n.value.row.entry (without_entry entry rows))
apart_without None entry rows a = tt
apart_without (Some n) entry rows a = without_absent n.value.row.entry entry rows a

pub record IsOut (places : List Place) (i : ℕ) (place : Place) (node : Box Part Global) : Type 0 where
  pub held : row_by_entry node.value.row.entry (rows_in places) ≡ Some (row_with node place.value place.time)
  pub rows : rows_in (set places i (without_node place)) ≡ without_entry node.value.row.entry (rows_in places)
  pub are : ArePlaces (set places i (without_node place))
  pub is : IsNodeOf place node.value

out_first : (p : Place) (ps : List Place) (node : Box Part Global) → IsPlace p (rows_in ps) → ArePlaces ps → p.node ≡ Some node → IsOut (p ∷ ps) zero p node
out_first p ps node a rest e =
    let absent : IsAbsent node.value.row.entry (rows_in ps) = subst (λ (h : Held). MatchOption h (Unit {0}) (λ n. IsAbsent n.value.row.entry (rows_in ps))) e a.apart in
    let here : rows_in (p ∷ ps) ≡ insert_by_entry (row_with node p.value p.time) (rows_in ps) = ap (λ (h : Held). among h p.value p.time (rows_in ps)) e in
    record {
      held = ap (λ (rows : List Priced). row_by_entry node.value.row.entry rows) here ∙ row_of_inserted (row_with node p.value p.time) (rows_in ps) absent;
      rows = sym (ap (λ (rows : List Priced). without_entry node.value.row.entry rows) here ∙ without_inserted (row_with node p.value p.time) (rows_in ps) absent);
      are = (record { fits_key = a.fits_key; early = a.early; holds = tt; apart = tt }, rest);
      is = subst (λ (h : Held). MatchOption h (Unit {0}) (λ n. IsNodeOf p n.value)) e a.holds;
    }

pub out_at : (places : List Place) (i : ℕ) (place : Place) (node : Box Part Global) → ArePlaces places → slice_get places i ≡ Some place → place.node ≡ Some node → IsOut places i place node
out_at [] i place node a h n = cc
out_at (p ∷ ps) zero place node a h n =
    let e : p ≡ place = some_place h in
    subst (λ (x : Place). IsOut (p ∷ ps) zero x node) e (out_first p ps node a.0 a.1 (ap (λ (x : Place). x.node) e ∙ n))
out_at (p ∷ ps) (suc i) place node a h n =
    let r = out_at ps i place node a.1 h n in
    let d = differs p.node node.value.row.entry (rows_in ps) _ a.0.apart r.held in
    record {
      held = row_among p.node p.value p.time node.value.row.entry (rows_in ps) d ∙ r.held;
      rows = ap (λ (rows : List Priced). among p.node p.value p.time rows) r.rows ∙ without_among p.node p.value p.time node.value.row.entry (rows_in ps) d (by_entry_places ps a.1);
      are = (record { fits_key = a.0.fits_key; early = a.0.early; holds = a.0.holds; apart = rw r.rows (apart_without p.node node.value.row.entry (rows_in ps) a.0.apart) }, r.are);
      is = r.is;
    }
