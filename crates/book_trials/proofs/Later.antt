-- Events that are later than all times of a side.
use Rattle.std.proofs.Common.{◌≡◌, ℕ, ◌+◌, ◌<◌, ◌≤◌, true, false, cond, eqb, List, [], ◌∷◌, map, Option, Some, None, refl, subst, arith, nat_eq}
use Rattle.std.specs.List.{AllByRecursion}
use Rattle.std.specs.Option.{option_eq, IfSome, IsNone, MatchOption}
use Rattle.std.specs.declared.alloc.Global.{Global}
use Rattle.std.specs.declared.boxed.Box.{Box}
use Rattle.peg_groups.proofs.GroupSteps.{without_absent}
use Rattle.peg_groups.specs.declared.side_book.Taken.{Taken}
use Rattle.peg_groups.specs.ByEntry.{absent_without}
use Rattle.venue_words.specs.declared.row.Key.{Key}
use Rattle.limit_tree.specs.Part.{Part}
use Rattle.venue_words.specs.ListLaws.{all_weaken}
use Rattle.venue_words.specs.Peg.{value_under}
use Rattle.venue_words.specs.Retime.{reprice, retime}
use Rattle.venue_words.specs.Rows.{row_by_entry, without_entry, IsAbsent, IsByEntry}
use Rattle.venue_words.specs.declared.price.Best.{Best}
use Rattle.venue_words.specs.declared.row.Priced.{Priced}
use Rattle.peg_groups.specs.Merge.{each_insert}
use Rattle.peg_groups.specs.Side.{IsLaterThan, SideState, first_state, with_row, without, IsCut}

abbrev Before : ℕ → Priced → Type 0
Before n row = row.time < n

pub later_first : IsLaterThan first_state 1
later_first = record { pricing = omega arith; times = tt }

pub later_more : (side : SideState) (n k : ℕ) → n ≤ k → IsLaterThan side n → IsLaterThan side k
later_more side n k h l = record {
  pricing = let p : side.event < n = l.pricing in omega arith;
  times = all_weaken {A = Priced} (Before n) (Before k) (λ row t. omega arith) side.rows l.times;
}

pub later_with : (side : SideState) (row : Priced) (n : ℕ) → row.time < n → IsLaterThan side n → IsLaterThan (with_row row side) n
later_with side row n h l = record { pricing = l.pricing; times = each_insert (Before n) row side.rows h l.times }

times_without : (n entry : ℕ) (rows : List Priced) → AllByRecursion (Before n) rows → AllByRecursion (Before n) (without_entry entry rows)
times_without n entry [] a = tt
times_without n entry (row ∷ rows) a =
    elim (eqb row.row.entry entry) as (λ v. AllByRecursion (Before n) (cond v rows (row ∷ without_entry entry rows))) [
      | true ↦ a.1
      | false ↦ (a.0, times_without n entry rows a.1)
    ]

pub later_without : (side : SideState) (entry n : ℕ) → IsLaterThan side n → IsLaterThan (without entry side) n
later_without side entry n l = record { pricing = l.pricing; times = times_without n entry side.rows l.times }

retime_before : (event : ℕ) (best : Best) (row : Priced) → row.time < event → (retime event best row).time < event + 1
unfolding retime
retime_before event best row h =
    elim (option_eq nat_eq (value_under best row.row) row.value) as (λ b. (cond b row (record { row = row.row; value = value_under best row.row; time = event })).time < event + 1) [ true ↦ omega arith | false ↦ omega arith ]

times_repriced : (event : ℕ) (best : Best) (rows : List Priced) → AllByRecursion (Before event) rows → AllByRecursion (Before (event + 1)) (map (retime event best) rows)
times_repriced event best [] a = tt
times_repriced event best (row ∷ rows) a = (retime_before event best row a.0, times_repriced event best rows a.1)

pub later_repriced : (rows : List Priced) (event : ℕ) (best : Best) → AllByRecursion (Before event) rows → IsLaterThan (record { rows = reprice event best rows; best = best; event = event }) (event + 1)
unfolding reprice
later_repriced rows event best a = record { pricing = omega arith; times = times_repriced event best rows a }

pub time_found : (n entry : ℕ) (rows : List Priced) (row : Priced) → AllByRecursion (Before n) rows → row_by_entry entry rows ≡ Some row → row.time < n
time_found n entry [] row a h = cc
time_found n entry (first ∷ rows) row a h =
    (elim (eqb first.row.entry entry) as (λ v. cond v (Some first) (row_by_entry entry rows) ≡ Some row → row.time < n) [
      | true ↦ λ k. let e : first ≡ row = cc in subst (Before n) e a.0
      | false ↦ λ k. time_found n entry rows row a.1 k
    ]) h

-- a side from which one row was taken, and perhaps a second one
pub record IsAfterNext (side : SideState) (entry n : ℕ) : Type 0 where
  pub absent : IsAbsent entry side.rows
  pub later : IsLaterThan side n

pub after_next : (old first next : SideState) (entry n : ℕ) (o : Option Taken) → IsByEntry old.rows → IsLaterThan old n → first ≡ without entry old → (IsNone o → next ≡ first) → IfSome o (λ taken. next ≡ without taken.node.value.row.entry first) → IsAfterNext next entry n
after_next old first next entry n None by later e same left =
    rw (same refl, e) (record { absent = absent_without entry old.rows by; later = later_without old entry n later })
after_next old first next entry n (Some taken) by later e same left =
    rw (left, e) (record {
      absent = without_absent entry taken.node.value.row.entry (without_entry entry old.rows) (absent_without entry old.rows by);
      later = later_without (without entry old) taken.node.value.row.entry n (later_without old entry n later);
    })

pub after_cut : (old new : SideState) (key : Key) (cap entry n : ℕ) (o : Option (Box Part Global)) → IsLaterThan old n → MatchOption o (new ≡ old) (λ node. IsCut key cap entry old new node.value.row) → IsLaterThan new n
after_cut old new key cap entry n None later e = rw e later
after_cut old new key cap entry n (Some node) later e = rw e.left (later_without old entry n later)
