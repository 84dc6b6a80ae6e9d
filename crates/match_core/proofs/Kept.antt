-- What trades leave as it was: sides, times, entries and the order of rows.
use Rattle.std.proofs.Common.{◌≡◌, ℕ, ◌<◌, ◌≤◌, nat_lt, true, false, cond, List, [], ◌∷◌, map}
use Rattle.std.specs.List.{AllByRecursion}
use Rattle.venue_words.specs.declared.price.Side.{Side}
use Rattle.venue_words.specs.declared.price.Side.TheVariants.{Buy, Sell}
use Rattle.venue_words.specs.declared.row.Priced.{Priced}
use Rattle.venue_words.specs.ListLaws.{all_weaken, all_both}
use Rattle.venue_words.specs.Priority.{in_priority}
use Rattle.venue_words.specs.Rows.{IsByEntry, IsAbsent}
use Rattle.eager_meaning.specs.declared.trade.Take.{Take}
use Rattle.eager_meaning.specs.Matching.{row_after, rows_after, unfilled, shares_of}
use Rattle.eager_meaning.specs.Recheck.{Sides, meet, crosses_any, sweep, recheck}
use Rattle.match_core.specs.Aside.{HasLeaves}
use Rattle.match_core.specs.SidesView.{IsRowOf, AreRowsOf, AreBoth}
use Rattle.match_core.proofs.AfterTrades.{by_entry_map}
use Rattle.match_core.proofs.Stages.{after_full}
use Rattle.match_core.proofs.Trades.{row_after_entry}

pub all_unfilled : (P : Priced → Type 0) (rows : List Priced) → AllByRecursion P rows → AllByRecursion P (unfilled rows)
all_unfilled P [] a = tt
all_unfilled P (x ∷ rows) a = elim (nat_lt 0 x.row.leaves) as (λ b. AllByRecursion P (cond b (x ∷ unfilled rows) (unfilled rows))) [ true ↦ (a.0, all_unfilled P rows a.1) | false ↦ all_unfilled P rows a.1 ]

pub all_mapped : (P : Priced → Type 0) (f : Priced → Priced) → ((x : Priced) → P x → P (f x)) → (rows : List Priced) → AllByRecursion P rows → AllByRecursion P (map f rows)
all_mapped P f keeps [] a = tt
all_mapped P f keeps (x ∷ rows) a = (keeps x a.0, all_mapped P f keeps rows a.1)

sorted_unfilled : (rows : List Priced) → IsByEntry rows → IsByEntry (unfilled rows)
sorted_unfilled [] o = tt
sorted_unfilled (x ∷ rows) o = elim (nat_lt 0 x.row.leaves) as (λ b. IsByEntry (cond b (x ∷ unfilled rows) (unfilled rows))) [ true ↦ (all_unfilled (λ later. x.row.entry < later.row.entry) rows o.0, sorted_unfilled rows o.1) | false ↦ sorted_unfilled rows o.1 ]

-- what a change of leaves keeps of a row, trades keep of all
pub all_after : (P : Priced → Type 0) → ((n : ℕ) (x : Priced) → P x → P (row_after n x)) → (takes : List Take) (rows : List Priced) → AllByRecursion P rows → AllByRecursion P (rows_after takes rows)
unfolding rows_after
all_after P keeps takes rows a = all_unfilled P (map (λ x. row_after (shares_of takes x) x) rows) (all_mapped P (λ x. row_after (shares_of takes x) x) (λ x h. keeps (shares_of takes x) x h) rows a)

pub sorted_after : (takes : List Take) (rows : List Priced) → IsByEntry rows → IsByEntry (rows_after takes rows)
unfolding rows_after
sorted_after takes rows o = sorted_unfilled (map (λ x. row_after (shares_of takes x) x) rows) (by_entry_map (λ x. row_after (shares_of takes x) x) (λ x. row_after_entry (shares_of takes x) x) rows o)

absent_kept : (entry n : ℕ) (x : Priced) → (x.row.entry ≡ entry → ⊥) → ((row_after n x).row.entry ≡ entry → ⊥)
unfolding row_after
absent_kept entry n x h = h

pub absent_after : (entry : ℕ) (takes : List Take) (rows : List Priced) → IsAbsent entry rows → IsAbsent entry (rows_after takes rows)
absent_after entry takes rows a = all_after (λ x. x.row.entry ≡ entry → ⊥) (absent_kept entry) takes rows a

-- all of a row but its shares
pub record IsOf (side : Side) (latest : ℕ) (x : Priced) : Type 0 where
  pub side_is : x.row.key.side ≡ side
  pub time : x.time ≤ latest
  pub entry : x.row.entry ≤ latest

of_kept : (side : Side) (latest n : ℕ) (x : Priced) → IsOf side latest x → IsOf side latest (row_after n x)
unfolding row_after
of_kept side latest n x h = record { side_is = h.side_is; time = h.time; entry = h.entry }

pub rows_kept : (side : Side) (latest : ℕ) (takes : List Take) (rows : List Priced) → AreRowsOf side latest rows → AreRowsOf side latest (rows_after takes rows)
rows_kept side latest takes rows r =
    let of = all_after (IsOf side latest) (of_kept side latest) takes rows (all_weaken (IsRowOf side latest) (IsOf side latest) (λ x h. record { side_is = h.side_is; time = h.time; entry = h.entry }) rows r.each) in
    record {
      each = all_both (IsOf side latest) HasLeaves (IsRowOf side latest) (λ x a b. record { side_is = a.side_is; time = a.time; entry = a.entry; has = b }) (rows_after takes rows) of (after_full takes rows);
      sorted = sorted_after takes rows r.sorted;
    }

apart_kept : (sells : List Priced) (n : ℕ) (x : Priced) → IsAbsent x.row.entry sells → IsAbsent (row_after n x).row.entry sells
unfolding row_after
apart_kept sells n x a = a

pub both_kept : (latest : ℕ) (bought sold : List Take) (buys sells : List Priced) → AreBoth latest buys sells → AreBoth latest (rows_after bought buys) (rows_after sold sells)
both_kept latest bought sold buys sells b = record {
  buys_are = rows_kept Buy latest bought buys b.buys_are;
  sells_are = rows_kept Sell latest sold sells b.sells_are;
  apart = all_weaken (λ x. IsAbsent x.row.entry sells) (λ x. IsAbsent x.row.entry (rows_after sold sells)) (λ x h. absent_after x.row.entry sold sells h) (rows_after bought buys) (all_after (λ x. IsAbsent x.row.entry sells) (apart_kept sells) bought buys b.apart);
}

-- what trades keep of both sides, each taker keeps
meet_keeps : (Q : List Priced → List Priced → Type 0) → ((t u : List Take) (a b : List Priced) → Q a b → Q (rows_after t a) (rows_after u b)) → (x : Priced) (sides : Sides) → Q sides.own sides.others → Q (meet x sides).own (meet x sides).others
unfolding meet
meet_keeps Q keeps x sides q = keeps _ _ sides.own sides.others q

sweep_keeps : (Q : List Priced → List Priced → Type 0) → ((t u : List Take) (a b : List Priced) → Q a b → Q (rows_after t a) (rows_after u b)) → (xs : List Priced) (sides : Sides) → Q sides.own sides.others → Q (sweep xs sides).own (sweep xs sides).others
unfolding sweep
sweep_keeps Q keeps [] sides q = q
sweep_keeps Q keeps (x ∷ xs) sides q =
    elim (crosses_any x sides.others) as (λ b. Q (cond b (sweep xs (meet x sides)) sides).own (cond b (sweep xs (meet x sides)) sides).others) [
      | true ↦ sweep_keeps Q keeps xs (meet x sides) (meet_keeps Q keeps x sides q)
      | false ↦ q
    ]

-- and so the recheck
pub recheck_keeps : (Q : List Priced → List Priced → Type 0) → ((t u : List Take) (a b : List Priced) → Q a b → Q (rows_after t a) (rows_after u b)) → (buys sells : List Priced) → Q buys sells → Q (recheck buys sells).buys (recheck buys sells).sells
unfolding recheck
recheck_keeps Q keeps buys sells q =
    let start : Sides = record { own = buys; others = sells; fills = [] } in
    let first = sweep (in_priority buys) start in
    let second : Sides = record { own = first.others; others = first.own; fills = first.fills } in
    sweep_keeps (λ a b. Q b a) (λ t u a b h. keeps u t b a h) (in_priority first.others) second (sweep_keeps Q keeps (in_priority buys) start q)

pub recheck_both : (latest : ℕ) (buys sells : List Priced) → AreBoth latest buys sells → AreBoth latest (recheck buys sells).buys (recheck buys sells).sells
recheck_both latest buys sells b = recheck_keeps (AreBoth latest) (λ t u a c h. both_kept latest t u a c h) buys sells b
