-- Rows that have shares left and entered at different events, and that they stay so.
use Rattle.std.proofs.Common.{◌≡◌, ℕ, ◌<◌, true, false, cond, List, [], ◌∷◌, refl, sym, arith}
use Rattle.std.specs.Prelude.{map, nat_lt}
use Rattle.std.specs.List.{AllByRecursion}
use Rattle.std.proofs.lemmas.Bool.Decides.{nat_tests}
use Rattle.venue_words.specs.declared.row.Row.{Row}
use Rattle.venue_words.specs.declared.row.Priced.{Priced}
use Rattle.venue_words.specs.ListLaws.{all_weaken}
use Rattle.venue_words.specs.Rows.{IsByEntry}
use Rattle.eager_meaning.specs.declared.trade.Take.{Take}
use Rattle.eager_meaning.specs.Matching.{row_after, shares_of, unfilled, rows_after}
use Rattle.market_laws.specs.Pairwise.{Pairwise, Across, IsMutual, IsKeptByTrades, pairwise_after, TakesPairwise}

-- two rows entered at different events
abbrev pub EnteredApart : Row → Row → Type 0
EnteredApart x y = y.entry ≡ x.entry → ⊥

-- no two rows entered at one event: none of the later ones has the entry of a row
abbrev pub EntriesDiffer : List Priced → Type 0
EntriesDiffer rows = Pairwise EnteredApart rows

-- no row of a side entered at the event of one of the other side
abbrev pub AreApart : List Priced → List Priced → Type 0
AreApart own others = Across EnteredApart own others

-- no two takes are from one row
abbrev pub TakesDiffer : List Take → Type 0
TakesDiffer takes = TakesPairwise EnteredApart takes

-- no take is from the row of this entry
abbrev pub IsSpared : ℕ → List Take → Type 0
IsSpared entry takes = AllByRecursion (λ take. take.contra.row.entry ≡ entry → ⊥) takes

-- has shares left
abbrev pub HasLeaves : Priced → Type 0
HasLeaves x = 0 < x.row.leaves

-- rows of one side: each has shares left, and no two entered at one event
pub record AreResting (rows : List Priced) : Type 0 where
  pub leaves : AllByRecursion HasLeaves rows
  pub differ : EntriesDiffer rows

-- ---- laws

pub apart_back : IsMutual EnteredApart
apart_back x y d e = d (sym e)

pub apart_kept : IsKeptByTrades EnteredApart
unfolding row_after
apart_kept shares x y d = d

-- rows in order of entry differ
pub differ_by_entry : (rows : List Priced) → IsByEntry rows → EntriesDiffer rows
differ_by_entry [] a = tt
differ_by_entry (x ∷ xs) a = (all_weaken (λ y. x.row.entry < y.row.entry) (λ y. y.row.entry ≡ x.row.entry → ⊥) (λ y l e. omega (arith, l, e)) xs a.0, differ_by_entry xs a.1)

left_of : (n : ℕ) → nat_lt 0 n ≡ true → 0 < n
left_of n e = grind (arith, nat_tests)

pub leaves_unfilled : (rows : List Priced) → AllByRecursion HasLeaves (unfilled rows)
leaves_unfilled [] = tt
leaves_unfilled (x ∷ xs) =
    (elim (nat_lt 0 x.row.leaves) as (λ b. nat_lt 0 x.row.leaves ≡ b → AllByRecursion HasLeaves (cond b (x ∷ unfilled xs) (unfilled xs)))
    [ true ↦ λ e. (left_of _ e, leaves_unfilled xs) | false ↦ λ e. leaves_unfilled xs ]) refl

-- what trades leave of a side rests
pub resting_after : (takes : List Take) (rows : List Priced) → EntriesDiffer rows → AreResting (rows_after takes rows)
unfolding rows_after
resting_after takes rows a =
    record { leaves = leaves_unfilled (map (λ x. row_after (shares_of takes x) x) rows); differ = pairwise_after EnteredApart apart_back apart_kept takes rows a }
