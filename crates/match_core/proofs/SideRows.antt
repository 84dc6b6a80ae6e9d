-- The rows of both sides between events.
use Rattle.std.proofs.Common.{◌≡◌, ◌⊎◌, ℕ, suc, ◌+◌, ◌^◌, ◌<◌, ◌≤◌, Bool, true, false, nat_lt, cond, eqb, List, [], ◌∷◌, ◌++◌, map, length, Option, Some, None, refl, ap, sym, ◌∙◌, subst, arith, inl, inr, append-nil}
use Rattle.std.specs.Prelude.{find, ◌==◌, not, nat_eq, IfSome}
use Rattle.std.specs.List.{AllByRecursion}
use Rattle.std.specs.Option.{option_eq}
use Rattle.std.proofs.lemmas.Bool.{eq-eqb, ne_eqb, lt-ltb, le-ltb}
use Rattle.venue_words.specs.declared.price.Best.{Best}
use Rattle.venue_words.specs.declared.price.Side.{Side}
use Rattle.venue_words.specs.declared.price.Side.TheVariants.{Buy, Sell}
use Rattle.venue_words.specs.declared.row.Row.{Row}
use Rattle.venue_words.specs.declared.row.Priced.{Priced}
use Rattle.venue_words.specs.ListLaws.{all_weaken, all_append, all_both}
use Rattle.venue_words.specs.Peg.{value_under}
use Rattle.venue_words.specs.Retime.{reprice, retime}
use Rattle.venue_words.specs.Rows.{IsByEntry, IsAbsent, row_by_entry}
use Rattle.eager_meaning.specs.declared.trade.Take.{Take}
use Rattle.eager_meaning.specs.Changing.{without, with_leaves}
use Rattle.eager_meaning.specs.Matching.{row_after, rows_after, unfilled, takes_of}
use Rattle.eager_meaning.specs.Walk.{total_of}
use Rattle.eager_meaning.specs.Entering.{entered}
use Rattle.eager_meaning.specs.Showing.{row_of_order}
use Rattle.peg_groups.specs.Merge.{below_or_not}
use Rattle.peg_groups.specs.Side.{SideState, IsHeldAt, priced_at}
use Rattle.match_core.specs.Aside.{HasLeaves}
use Rattle.match_core.specs.BothSides.{Rests, requoted_rows}
use Rattle.match_core.specs.Rooms.{IsReady}
use Rattle.match_core.specs.declared.scratch.Scratch.{Scratch}
use Rattle.match_core.specs.SidesView.{IsRowOf, AreRowsOf, AreBoth, IsPricedBy, AreSides, OnSide}
use Rattle.match_core.proofs.AfterTrades.{by_entry_map}
use Rattle.match_core.proofs.Kept.{all_mapped, all_unfilled, all_after, rows_kept, absent_after, recheck_both}

-- ---- what the rows of a side are

pub last_rows : (side : Side) (latest n : ℕ) (rows : List Priced) → AreRowsOf side latest rows → latest < n → AllByRecursion (λ x. x.row.entry < n) rows
last_rows side latest n rows r h = all_weaken (IsRowOf side latest) (λ x. x.row.entry < n) (λ x k. omega (arith, h, k.entry)) rows r.each

count_from : (n latest : ℕ) (rows : List Priced) → n ≤ latest + 1 → AllByRecursion (λ x. n ≤ x.row.entry) rows → IsByEntry rows → AllByRecursion (λ x. x.row.entry ≤ latest) rows → n + length rows ≤ latest + 1
count_from n latest [] h a o b = omega (arith, h)
count_from n latest (x ∷ rows) h a o b =
    let i = count_from (suc x.row.entry) latest rows (omega (arith, b.0)) (all_weaken (λ later. x.row.entry < later.row.entry) (λ later. suc x.row.entry ≤ later.row.entry) (λ later k. omega (arith, k)) rows o.0) o.1 b.1 in
    omega (arith, i, a.0)

from_zero : (rows : List Priced) → AllByRecursion (λ x. 0 ≤ x.row.entry) rows
from_zero [] = tt
from_zero (x ∷ rows) = (omega arith, from_zero rows)

-- rows that entered at different events are no more than there were events
pub few_rows : (side : Side) (latest : ℕ) (rows : List Priced) → AreRowsOf side latest rows → length rows ≤ latest + 1
few_rows side latest rows r = let h = count_from 0 latest rows (omega arith) (from_zero rows) r.sorted (all_weaken (IsRowOf side latest) (λ x. x.row.entry ≤ latest) (λ x k. k.entry) rows r.each) in omega (arith, h)

pub rows_fit : (latest : ℕ) (buys sells : List Priced) → AreBoth latest buys sells → latest < 2 ^ 32 → length buys + length sells < 2 ^ 64
rows_fit latest buys sells b h = let p = few_rows Buy latest buys b.buys_are in let q = few_rows Sell latest sells b.sells_are in omega (arith, h, p, q)

-- ---- a new quote

retime_row : (side : Side) (latest event : ℕ) (best : Best) (x : Priced) → latest < event → IsRowOf side latest x → IsRowOf side event (retime event best x)
unfolding retime
retime_row side latest event best x h r =
    elim (option_eq nat_eq (value_under best x.row) x.value) as (λ b. IsRowOf side event (cond b x (record { row = x.row; value = value_under best x.row; time = event }))) [
      | true ↦ record { side_is = r.side_is; time = omega (arith, h, r.time); entry = omega (arith, h, r.entry); has = r.has }
      | false ↦ record { side_is = r.side_is; time = omega arith; entry = omega (arith, h, r.entry); has = r.has }
    ]

retime_entry : (event : ℕ) (best : Best) (x : Priced) → (retime event best x).row.entry ≡ x.row.entry
unfolding retime
retime_entry event best x =
    elim (option_eq nat_eq (value_under best x.row) x.value) as (λ b. (cond b x (record { row = x.row; value = value_under best x.row; time = event })).row.entry ≡ x.row.entry) [ true ↦ refl | false ↦ refl ]

each_retimed : (P Q : Priced → Type 0) (f : Priced → Priced) → ((x : Priced) → P x → Q (f x)) → (rows : List Priced) → AllByRecursion P rows → AllByRecursion Q (map f rows)
each_retimed P Q f keeps [] a = tt
each_retimed P Q f keeps (x ∷ rows) a = (keeps x a.0, each_retimed P Q f keeps rows a.1)

reprice_rows : (side : Side) (latest event : ℕ) (best : Best) (rows : List Priced) → latest < event → AreRowsOf side latest rows → AreRowsOf side event (reprice event best rows)
unfolding reprice
reprice_rows side latest event best rows h r = record {
  each = each_retimed (IsRowOf side latest) (IsRowOf side event) (retime event best) (λ x k. retime_row side latest event best x h k) rows r.each;
  sorted = by_entry_map (retime event best) (retime_entry event best) rows r.sorted;
}

absent_repriced : (entry event : ℕ) (best : Best) (rows : List Priced) → IsAbsent entry rows → IsAbsent entry (map (retime event best) rows)
absent_repriced entry event best rows a = each_retimed (λ x. x.row.entry ≡ entry → ⊥) (λ x. x.row.entry ≡ entry → ⊥) (retime event best) (λ x k e. k (sym (retime_entry event best x) ∙ e)) rows a

pub repriced_both : (latest event : ℕ) (best : Best) (buys sells : List Priced) → latest < event → AreBoth latest buys sells → AreBoth event (reprice event best buys) (reprice event best sells)
unfolding reprice
repriced_both latest event best buys sells h b = record {
  buys_are = reprice_rows Buy latest event best buys h b.buys_are;
  sells_are = reprice_rows Sell latest event best sells h b.sells_are;
  apart = each_retimed (λ x. IsAbsent x.row.entry sells) (λ x. IsAbsent x.row.entry (map (retime event best) sells)) (retime event best) (λ x a. subst (λ (n : ℕ). IsAbsent n (map (retime event best) sells)) (sym (retime_entry event best x)) (absent_repriced x.row.entry event best sells a)) buys b.apart;
}

pub length_repriced : (event : ℕ) (best : Best) (rows : List Priced) → length (reprice event best rows) ≡ length rows
unfolding reprice
length_repriced event best [] = refl
length_repriced event best (x ∷ rows) = ap suc (length_repriced event best rows)

retime_has : (event : ℕ) (best : Best) (x : Priced) → HasLeaves x → HasLeaves (retime event best x)
unfolding retime
retime_has event best x h =
    elim (option_eq nat_eq (value_under best x.row) x.value) as (λ b. HasLeaves (cond b x (record { row = x.row; value = value_under best x.row; time = event }))) [ true ↦ h | false ↦ h ]

pub full_repriced : (event : ℕ) (best : Best) (rows : List Priced) → AllByRecursion HasLeaves rows → AllByRecursion HasLeaves (reprice event best rows)
unfolding reprice
full_repriced event best rows a = all_mapped HasLeaves (retime event best) (retime_has event best) rows a

-- ---- rows that leave or change

all_without : (P : Priced → Type 0) (entry : ℕ) (rows : List Priced) → AllByRecursion P rows → AllByRecursion P (without entry rows)
all_without P entry [] a = tt
all_without P entry (x ∷ rows) a = elim (eqb x.row.entry entry) as (λ b. AllByRecursion P (cond (not b) (x ∷ without entry rows) (without entry rows))) [ true ↦ all_without P entry rows a.1 | false ↦ (a.0, all_without P entry rows a.1) ]

sorted_without : (entry : ℕ) (rows : List Priced) → IsByEntry rows → IsByEntry (without entry rows)
sorted_without entry [] o = tt
sorted_without entry (x ∷ rows) o = elim (eqb x.row.entry entry) as (λ b. IsByEntry (cond (not b) (x ∷ without entry rows) (without entry rows))) [ true ↦ sorted_without entry rows o.1 | false ↦ (all_without (λ later. x.row.entry < later.row.entry) entry rows o.0, sorted_without entry rows o.1) ]

pub without_rows : (side : Side) (latest entry : ℕ) (rows : List Priced) → AreRowsOf side latest rows → AreRowsOf side latest (without entry rows)
without_rows side latest entry rows r = record { each = all_without (IsRowOf side latest) entry rows r.each; sorted = sorted_without entry rows r.sorted }

cut_buys : (latest entry : ℕ) (buys sells : List Priced) → AreBoth latest buys sells → AreBoth latest (without entry buys) sells
cut_buys latest entry buys sells b = record {
  buys_are = without_rows Buy latest entry buys b.buys_are;
  sells_are = b.sells_are;
  apart = all_without (λ x. IsAbsent x.row.entry sells) entry buys b.apart;
}

cut_sells : (latest entry : ℕ) (buys sells : List Priced) → AreBoth latest buys sells → AreBoth latest buys (without entry sells)
cut_sells latest entry buys sells b = record {
  buys_are = b.buys_are;
  sells_are = without_rows Sell latest entry sells b.sells_are;
  apart = all_weaken (λ x. IsAbsent x.row.entry sells) (λ x. IsAbsent x.row.entry (without entry sells)) (λ x a. all_without (λ y. y.row.entry ≡ x.row.entry → ⊥) entry sells a) buys b.apart;
}

pub without_fewer : (entry : ℕ) (rows : List Priced) → length (without entry rows) ≤ length rows
without_fewer entry [] = omega arith
without_fewer entry (x ∷ rows) =
    let h = without_fewer entry rows in
    elim (eqb x.row.entry entry) as (λ b. length (cond (not b) (x ∷ without entry rows) (without entry rows)) ≤ suc (length rows)) [ true ↦ omega (arith, h) | false ↦ omega (arith, h) ]

-- a call on one side keeps its quote and event
keeps_by : (best : Best) (latest : ℕ) (old new : SideState) → new.best ≡ old.best → new.event ≡ old.event → IsPricedBy best latest old → IsPricedBy best latest new
keeps_by best latest old new b e p = record { best_is = b ∙ p.best_is; event = omega (arith, e, p.event) }

pub sides_cut_buy : (best : Best) (latest entry : ℕ) (buys sells new : SideState) → AreSides best latest buys sells → new.rows ≡ without entry buys.rows → new.best ≡ buys.best → new.event ≡ buys.event → AreSides best latest new sells
sides_cut_buy best latest entry buys sells new a r b e = record { rows = rw r (cut_buys latest entry buys.rows sells.rows a.rows); buys_by = keeps_by best latest buys new b e a.buys_by; sells_by = a.sells_by }

pub sides_cut_sell : (best : Best) (latest entry : ℕ) (buys sells new : SideState) → AreSides best latest buys sells → new.rows ≡ without entry sells.rows → new.best ≡ sells.best → new.event ≡ sells.event → AreSides best latest buys new
sides_cut_sell best latest entry buys sells new a r b e = record { rows = rw r (cut_sells latest entry buys.rows sells.rows a.rows); buys_by = a.buys_by; sells_by = keeps_by best latest sells new b e a.sells_by }

leaves_row : (side : Side) (latest entry leaves : ℕ) (x : Priced) → 0 < leaves → IsRowOf side latest x → IsRowOf side latest (with_leaves entry leaves x)
leaves_row side latest entry leaves x h r =
    elim (eqb x.row.entry entry) as (λ b. IsRowOf side latest (cond b (record x { row = record x.row { leaves = leaves } }) x)) [
      | true ↦ record { side_is = r.side_is; time = r.time; entry = r.entry; has = h }
      | false ↦ r
    ]

leaves_entry : (entry leaves : ℕ) (x : Priced) → (with_leaves entry leaves x).row.entry ≡ x.row.entry
leaves_entry entry leaves x = elim (eqb x.row.entry entry) as (λ b. (cond b (record x { row = record x.row { leaves = leaves } }) x).row.entry ≡ x.row.entry) [ true ↦ refl | false ↦ refl ]

lower_rows : (side : Side) (latest entry leaves : ℕ) (rows : List Priced) → 0 < leaves → AreRowsOf side latest rows → AreRowsOf side latest (map (with_leaves entry leaves) rows)
lower_rows side latest entry leaves rows h r = record {
  each = all_mapped (IsRowOf side latest) (with_leaves entry leaves) (λ x k. leaves_row side latest entry leaves x h k) rows r.each;
  sorted = by_entry_map (with_leaves entry leaves) (leaves_entry entry leaves) rows r.sorted;
}

absent_lowered : (entry changed leaves : ℕ) (rows : List Priced) → IsAbsent entry rows → IsAbsent entry (map (with_leaves changed leaves) rows)
absent_lowered entry changed leaves rows a = all_mapped (λ x. x.row.entry ≡ entry → ⊥) (with_leaves changed leaves) (λ x k e. k (sym (leaves_entry changed leaves x) ∙ e)) rows a

lower_buys : (latest entry leaves : ℕ) (buys sells : List Priced) → 0 < leaves → AreBoth latest buys sells → AreBoth latest (map (with_leaves entry leaves) buys) sells
lower_buys latest entry leaves buys sells h b = record {
  buys_are = lower_rows Buy latest entry leaves buys h b.buys_are;
  sells_are = b.sells_are;
  apart = all_mapped (λ x. IsAbsent x.row.entry sells) (with_leaves entry leaves) (λ x a. subst (λ (n : ℕ). IsAbsent n sells) (sym (leaves_entry entry leaves x)) a) buys b.apart;
}

lower_sells : (latest entry leaves : ℕ) (buys sells : List Priced) → 0 < leaves → AreBoth latest buys sells → AreBoth latest buys (map (with_leaves entry leaves) sells)
lower_sells latest entry leaves buys sells h b = record {
  buys_are = b.buys_are;
  sells_are = lower_rows Sell latest entry leaves sells h b.sells_are;
  apart = all_weaken (λ x. IsAbsent x.row.entry sells) (λ x. IsAbsent x.row.entry (map (with_leaves entry leaves) sells)) (λ x a. absent_lowered x.row.entry entry leaves sells a) buys b.apart;
}

pub sides_lower_buy : (best : Best) (latest entry leaves : ℕ) (buys sells new : SideState) → 0 < leaves → AreSides best latest buys sells → new.rows ≡ map (with_leaves entry leaves) buys.rows → new.best ≡ buys.best → new.event ≡ buys.event → AreSides best latest new sells
sides_lower_buy best latest entry leaves buys sells new h a r b e = record { rows = rw r (lower_buys latest entry leaves buys.rows sells.rows h a.rows); buys_by = keeps_by best latest buys new b e a.buys_by; sells_by = a.sells_by }

pub sides_lower_sell : (best : Best) (latest entry leaves : ℕ) (buys sells new : SideState) → 0 < leaves → AreSides best latest buys sells → new.rows ≡ map (with_leaves entry leaves) sells.rows → new.best ≡ sells.best → new.event ≡ sells.event → AreSides best latest buys new
sides_lower_sell best latest entry leaves buys sells new h a r b e = record { rows = rw r (lower_sells latest entry leaves buys.rows sells.rows h a.rows); buys_by = a.buys_by; sells_by = keeps_by best latest sells new b e a.sells_by }

-- ---- the row of an order

find_both : (p : Priced → Bool) (xs ys : List Priced) (x : Priced) → find p (xs ++ ys) ≡ Some x → (find p xs ≡ Some x) ⊎ (find p ys ≡ Some x)
find_both p [] ys x h = inr h
find_both p (y ∷ xs) ys x h =
    (elim (p y) as (λ b. cond b (Some y) (find p (xs ++ ys)) ≡ Some x → (cond b (Some y) (find p xs) ≡ Some x) ⊎ (find p ys ≡ Some x)) [
      | true ↦ λ k. inl k
      | false ↦ λ k. find_both p xs ys x k
    ]) h

found_all : (P : Priced → Type 0) (p : Priced → Bool) (rows : List Priced) (x : Priced) → AllByRecursion P rows → find p rows ≡ Some x → P x
found_all P p [] x a h = cc
found_all P p (y ∷ rows) x a h =
    (elim (p y) as (λ b. cond b (Some y) (find p rows) ≡ Some x → P x) [
      | true ↦ λ k. let same : y ≡ x = cc in subst P same a.0
      | false ↦ λ k. found_all P p rows x a.1 k
    ]) h

found_held : (p : Priced → Bool) (rows : List Priced) (x : Priced) → IsByEntry rows → find p rows ≡ Some x → row_by_entry x.row.entry rows ≡ Some x
found_held p [] x o h = cc
found_held p (y ∷ rows) x o h =
    (elim (p y) as (λ b. cond b (Some y) (find p rows) ≡ Some x → row_by_entry x.row.entry (y ∷ rows) ≡ Some x) [
      | true ↦ λ k. let same : y ≡ x = cc in subst (λ (z : Priced). row_by_entry z.row.entry (y ∷ rows) ≡ Some z) same (rw (eq-eqb y.row.entry y.row.entry refl) refl)
      | false ↦ λ k.
          let later : y.row.entry < x.row.entry = found_all (λ z. y.row.entry < z.row.entry) p rows x o.0 k in
          rw (ne_eqb y.row.entry x.row.entry (λ e. omega (arith, later, e))) (found_held p rows x o.1 k)
    ]) h

absurd_sides : {A : Type 0} → Buy ≡ Sell → A
absurd_sides e = cc

-- the row on its side, and not on the other one
pub record IsOnOne (row : Row) (found : Priced) (own others : List Priced) : Type 0 where
  pub held : IsHeldAt row.key row.cap row.entry own found
  pub absent : IsAbsent row.entry others

pub rests_buy : (latest : ℕ) (buys sells : List Priced) (row : Row) → AreBoth latest buys sells → (r : Rests row (buys ++ sells)) → row.key.side ≡ Buy → IsOnOne row r.found buys sells
unfolding row_of_order
rests_buy latest buys sells row b r s = go (find_both (λ x. x.row.order == row.order) buys sells r.found r.is) where
  go : (find (λ x. x.row.order == row.order) buys ≡ Some r.found) ⊎ (find (λ x. x.row.order == row.order) sells ≡ Some r.found) → IsOnOne row r.found buys sells
  go (inl h) = record {
    held = record {
      held = subst (λ (n : ℕ). row_by_entry n buys ≡ Some r.found) r.entry_is (found_held (λ x. x.row.order == row.order) buys r.found b.buys_are.sorted h);
      placed = record { key_is = r.key_is; cap_is = r.cap_is; entry_is = r.entry_is };
    };
    absent = subst (λ (n : ℕ). IsAbsent n sells) r.entry_is (found_all (λ x. IsAbsent x.row.entry sells) (λ x. x.row.order == row.order) buys r.found b.apart h);
  }
  go (inr h) =
      let side = found_all (IsRowOf Sell latest) (λ x. x.row.order == row.order) sells r.found b.sells_are.each h in
      absurd_sides (sym s ∙ ap (λ k. k.side) (sym r.key_is) ∙ side.side_is)

-- and the other way round
flip_apart : (buys sells : List Priced) → AllByRecursion (λ x. IsAbsent x.row.entry sells) buys → AllByRecursion (λ y. IsAbsent y.row.entry buys) sells
flip_apart [] sells a = each_one sells where
  each_one : (ys : List Priced) → AllByRecursion (λ y. IsAbsent y.row.entry []) ys
  each_one [] = tt
  each_one (y ∷ ys) = (tt, each_one ys)
flip_apart (x ∷ buys) sells a = both sells a.0 (flip_apart buys sells a.1) where
  both : (ys : List Priced) → IsAbsent x.row.entry ys → AllByRecursion (λ y. IsAbsent y.row.entry buys) ys → AllByRecursion (λ y. IsAbsent y.row.entry (x ∷ buys)) ys
  both [] h k = tt
  both (y ∷ ys) h k = (((λ e. h.0 (sym e)), k.0), both ys h.1 k.1)

pub rests_sell : (latest : ℕ) (buys sells : List Priced) (row : Row) → AreBoth latest buys sells → (r : Rests row (buys ++ sells)) → row.key.side ≡ Sell → IsOnOne row r.found sells buys
unfolding row_of_order
rests_sell latest buys sells row b r s = go (find_both (λ x. x.row.order == row.order) buys sells r.found r.is) where
  go : (find (λ x. x.row.order == row.order) buys ≡ Some r.found) ⊎ (find (λ x. x.row.order == row.order) sells ≡ Some r.found) → IsOnOne row r.found sells buys
  go (inl h) =
      let side = found_all (IsRowOf Buy latest) (λ x. x.row.order == row.order) buys r.found b.buys_are.each h in
      absurd_sides (sym side.side_is ∙ ap (λ k. k.side) r.key_is ∙ s)
  go (inr h) = record {
    held = record {
      held = subst (λ (n : ℕ). row_by_entry n sells ≡ Some r.found) r.entry_is (found_held (λ x. x.row.order == row.order) sells r.found b.sells_are.sorted h);
      placed = record { key_is = r.key_is; cap_is = r.cap_is; entry_is = r.entry_is };
    };
    absent = subst (λ (n : ℕ). IsAbsent n buys) r.entry_is (found_all (λ y. IsAbsent y.row.entry buys) (λ x. x.row.order == row.order) sells r.found (flip_apart buys sells b.apart) h);
  }

-- ---- a row that enters

older : (side : Side) (latest event : ℕ) (rows : List Priced) → latest < event → AreRowsOf side latest rows → AreRowsOf side event rows
older side latest event rows h r = record {
  each = all_weaken (IsRowOf side latest) (IsRowOf side event) (λ x k. record { side_is = k.side_is; time = omega (arith, h, k.time); entry = omega (arith, h, k.entry); has = k.has }) rows r.each;
  sorted = r.sorted;
}

pub older_both : (latest event : ℕ) (buys sells : List Priced) → latest < event → AreBoth latest buys sells → AreBoth event buys sells
older_both latest event buys sells h b = record { buys_are = older Buy latest event buys h b.buys_are; sells_are = older Sell latest event sells h b.sells_are; apart = b.apart }

sorted_last : (x : Priced) (rows : List Priced) → AllByRecursion (λ y. y.row.entry < x.row.entry) rows → IsByEntry rows → IsByEntry (rows ++ x ∷ [])
sorted_last x [] a o = (tt, tt)
sorted_last x (y ∷ rows) a o = (all_append (λ later. y.row.entry < later.row.entry) rows (x ∷ []) o.0 (a.0, tt), sorted_last x rows a.1 o.1)

-- a row that enters stands last on its side, where it has shares left
pub with_left : (side : Side) (x : Priced) (rows : List Priced) → x.row.key.side ≡ side → x.time ≡ x.row.entry → AllByRecursion (λ y. y.row.entry < x.row.entry) rows → AreRowsOf side x.row.entry rows → AreRowsOf side x.row.entry (rows ++ unfilled (x ∷ []))
with_left side x rows s t a r = elim (below_or_not 0 x.row.leaves) [
  | inl some ↦ rw (lt-ltb 0 x.row.leaves some) (record { each = all_append (IsRowOf side x.row.entry) rows (x ∷ []) r.each (record { side_is = s; time = omega (arith, t); entry = omega arith; has = some }, tt); sorted = sorted_last x rows a r.sorted })
  | inr none ↦ rw (le-ltb 0 x.row.leaves none, append-nil rows) r
]

above_absent : (n : ℕ) (rows : List Priced) → AllByRecursion (λ y. y.row.entry < n) rows → IsAbsent n rows
above_absent n rows a = all_weaken (λ y. y.row.entry < n) (λ y. y.row.entry ≡ n → ⊥) (λ y h e. omega (arith, h, e)) rows a

absent_left : (n : ℕ) (x : Priced) (rows : List Priced) → (x.row.entry ≡ n → ⊥) → IsAbsent n rows → IsAbsent n (rows ++ unfilled (x ∷ []))
absent_left n x rows h a = elim (nat_lt 0 x.row.leaves) as (λ b. IsAbsent n (rows ++ cond b (x ∷ []) [])) [ true ↦ all_append (λ y. y.row.entry ≡ n → ⊥) rows (x ∷ []) a (h, tt) | false ↦ all_append (λ y. y.row.entry ≡ n → ⊥) rows [] a tt ]

entered_apart : (x : Priced) (buys sells : List Priced) (takes : List Take) → AllByRecursion (λ y. IsAbsent y.row.entry sells) buys → AllByRecursion (λ y. y.row.entry < x.row.entry) sells → AllByRecursion (λ y. IsAbsent y.row.entry (rows_after takes sells)) (buys ++ unfilled (x ∷ []))
entered_apart x buys sells takes a h =
    all_append (λ y. IsAbsent y.row.entry (rows_after takes sells)) buys (unfilled (x ∷ []))
    (all_weaken (λ y. IsAbsent y.row.entry sells) (λ y. IsAbsent y.row.entry (rows_after takes sells)) (λ y k. absent_after y.row.entry takes sells k) buys a)
    (all_unfilled (λ y. IsAbsent y.row.entry (rows_after takes sells)) (x ∷ []) (absent_after x.row.entry takes sells (above_absent x.row.entry sells h), tt))

left_apart : (x : Priced) (buys sells : List Priced) → AllByRecursion (λ y. IsAbsent y.row.entry sells) buys → AllByRecursion (λ y. y.row.entry < x.row.entry) buys → AllByRecursion (λ y. IsAbsent y.row.entry (sells ++ unfilled (x ∷ []))) buys
left_apart x buys sells a h = all_both (λ y. IsAbsent y.row.entry sells) (λ y. y.row.entry < x.row.entry) (λ y. IsAbsent y.row.entry (sells ++ unfilled (x ∷ []))) (λ y k l. absent_left y.row.entry x sells (λ e. omega (arith, l, e)) k) buys a h

-- both sides after a buy entered
pub entered_buy : (latest : ℕ) (best : Best) (row : Row) (immediate : Bool) (buys sells : List Priced) → row.key.side ≡ Buy → latest < row.entry → AreBoth latest buys sells → AreBoth row.entry (entered (priced_at best row) immediate buys sells).own (entered (priced_at best row) immediate buys sells).others
unfolding entered row_after
entered_buy latest best row immediate buys sells s h b =
    let takes = takes_of (priced_at best row) sells in
    let x = row_after (total_of takes) (priced_at best row) in
    let now = older_both latest row.entry buys sells h b in
    let sold = rows_kept Sell row.entry takes sells now.sells_are in
    elim immediate as (λ i. AreBoth row.entry (cond i buys (buys ++ unfilled (x ∷ []))) (rows_after takes sells)) [
      | true ↦ record { buys_are = now.buys_are; sells_are = sold; apart = all_weaken (λ y. IsAbsent y.row.entry sells) (λ y. IsAbsent y.row.entry (rows_after takes sells)) (λ y k. absent_after y.row.entry takes sells k) buys b.apart }
      | false ↦ record {
        buys_are = with_left Buy x buys s refl (last_rows Buy latest row.entry buys b.buys_are h) now.buys_are;
        sells_are = sold;
        apart = entered_apart x buys sells takes b.apart (last_rows Sell latest row.entry sells b.sells_are h);
      }
    ]

-- and after a sell did
pub entered_sell : (latest : ℕ) (best : Best) (row : Row) (immediate : Bool) (buys sells : List Priced) → row.key.side ≡ Sell → latest < row.entry → AreBoth latest buys sells → AreBoth row.entry (entered (priced_at best row) immediate sells buys).others (entered (priced_at best row) immediate sells buys).own
unfolding entered row_after
entered_sell latest best row immediate buys sells s h b =
    let takes = takes_of (priced_at best row) buys in
    let x = row_after (total_of takes) (priced_at best row) in
    let now = older_both latest row.entry buys sells h b in
    let bought = rows_kept Buy row.entry takes buys now.buys_are in
    elim immediate as (λ i. AreBoth row.entry (rows_after takes buys) (cond i sells (sells ++ unfilled (x ∷ [])))) [
      | true ↦ record { buys_are = bought; sells_are = now.sells_are; apart = all_after (λ y. IsAbsent y.row.entry sells) (λ n y k. k) takes buys b.apart }
      | false ↦ record {
        buys_are = bought;
        sells_are = with_left Sell x sells s refl (last_rows Sell latest row.entry sells b.sells_are h) now.sells_are;
        apart = all_after (λ y. IsAbsent y.row.entry (sells ++ unfilled (x ∷ []))) (λ n y k. k) takes buys (left_apart x buys sells b.apart (last_rows Buy latest row.entry buys b.buys_are h));
      }
    ]

-- ---- both sides after a quote

pub sides_requoted : (best quote : Best) (latest event : ℕ) (buys sells buys1 sells1 : SideState) → latest < event → AreSides best latest buys sells → buys1.rows ≡ (requoted_rows event quote buys.rows sells.rows).buys → sells1.rows ≡ (requoted_rows event quote buys.rows sells.rows).sells → buys1.best ≡ quote → sells1.best ≡ quote → buys1.event ≡ event → sells1.event ≡ event → AreSides quote event buys1 sells1
sides_requoted best quote latest event buys sells buys1 sells1 h a e d b1 b2 e1 e2 = record {
  rows = rw (e, d) (recheck_both event (reprice event quote buys.rows) (reprice event quote sells.rows) (repriced_both latest event quote buys.rows sells.rows h a.rows));
  buys_by = record { best_is = b1; event = omega (arith, e1) };
  sells_by = record { best_is = b2; event = omega (arith, e2) };
}

-- ---- room

pub ready_fewer : (n m : ℕ) (scratch : Scratch) → n ≤ m → IsReady m scratch → IsReady n scratch
ready_fewer n m scratch h r = record { fills = r.fills; room = record { fills = omega (arith, h, r.room.fills); aside = omega (arith, h, r.room.aside); tried = omega (arith, h, r.room.tried) } }

pub if_some_map : {A : Type 0} (P Q : A → Type 0) → ((x : A) → P x → Q x) → (o : Option A) → IfSome o P → IfSome o Q
if_some_map P Q f None h = h
if_some_map P Q f (Some x) h = f x h

pub on_buys : (side : Side) (A B C : Type 0) → (A → B) → OnSide side A C → OnSide side B C
on_buys Buy A B C f h = f h
on_buys Sell A B C f h = h

pub on_sells : (side : Side) (A B C : Type 0) → (B → C) → OnSide side A B → OnSide side A C
on_sells Buy A B C f h = h
on_sells Sell A B C f h = f h
