-- The row of each order: the one with which it entered last.
use Rattle.std.proofs.Common.{refl, ap, ◌∙◌}
use Rattle.std.specs.Prelude.{◌≡◌, ℕ, ◌-◌, Bool, nat_lt, if◌then◌else◌, List, [], ◌∷◌, ◌++◌, length, fold, slice_get, slice_set, Option, Some, None, option_map}
use Rattle.std.specs.Option.{option_map_or}
use Rattle.venue_words.specs.declared.command.Command.{Command}
use Rattle.venue_words.specs.declared.command.Command.TheVariants.{Quote, New, Cancel, Replace, Status as Request}
use Rattle.venue_words.specs.declared.command.Event.{Event}
use Rattle.venue_words.specs.declared.row.Row.{Row}
use Rattle.eager_meaning.specs.declared.order.Order.{Order}
use Rattle.eager_meaning.specs.State.{State, initial, resting}
use Rattle.eager_meaning.specs.Orders.{live_named, is_used, known_of}
use Rattle.eager_meaning.specs.Showing.{row_of_order}
use Rattle.eager_meaning.specs.Terms.{row_of, is_immediate}
use Rattle.eager_meaning.specs.Verdict.{verdict}
use Rattle.eager_meaning.specs.Changing.{only_lowers}
use Rattle.eager_meaning.specs.Step.{Run, IsNumbered, runs, step}

-- ---- the rows with which orders entered

-- the row with which an order enters, where it may rest
abbrev pub if_it_rests : Bool → Row → Option Row
if_it_rests immediate row = if immediate then None else Some row

-- for each order the row with which it entered last, or none where it was canceled or may not rest: after an event, from
-- those before it. A New adds one, a Cancel takes its order's away, and a Replace that enters anew puts another
abbrev pub entries_after : ℕ → State → ℕ → Command → List (Option Row) → List (Option Row)
entries_after tick s event (Quote market bid offer) entries = entries
entries_after tick s event (New member id terms) entries =
    let broken = verdict (New member id terms) (known_of tick (is_used member id s.used) None) in
    let row = row_of tick event (length s.orders) member 0 terms in
    option_map_or (λ rule. entries) broken (entries ++ if_it_rests (is_immediate terms) row ∷ [])
entries_after tick s event (Cancel member id orig) entries =
    let live = live_named member orig s.orders (resting s) in
    let broken = verdict (Cancel member id orig) (known_of tick (is_used member id s.used) live) in
    option_map_or (λ rule. entries) broken (option_map_or (λ found. slice_set entries found.number None) live entries)
entries_after tick s event (Replace member id orig terms) entries =
    let live = live_named member orig s.orders (resting s) in
    let broken = verdict (Replace member id orig terms) (known_of tick (is_used member id s.used) live) in
    option_map_or (λ rule. entries) broken
    (option_map_or
    (λ found.
    let row = row_of tick event found.number member found.order.cum terms in
    if only_lowers tick terms found
    then entries
    else slice_set entries found.number (if_it_rests (is_immediate terms) row))
    live entries)
entries_after tick s event (Request member id side) entries = entries

-- a run with those rows
pub record EntryRun : Type 0 where
  pub run : Run
  pub entries : List (Option Row)

-- one more event
abbrev pub entry_step : ℕ → EntryRun → Event → EntryRun
entry_step tick so_far event =
    record {
      run = step tick so_far.run event;
      entries = entries_after tick so_far.run.state event.number event.command so_far.entries;
    }

-- the rows with which the orders of a history entered last
abbrev pub entry_rows : ℕ → ℕ → List Event → List (Option Row)
entry_rows markets tick history =
    (fold (entry_step tick) (record { run = record { state = initial markets; reports = [] }; entries = [] }) history).entries

-- ---- the rows that rest

-- the row of an order that entered with it: its shares left, and whether it has traded, are by now the order's; nothing
-- else of it has changed
abbrev pub row_by_now : Order → Row → Row
row_by_now order row = record row { leaves = order.quantity - order.cum; traded = nat_lt 0 order.cum }

-- the row that an order has: none where it is filled
abbrev pub row_left : Order → Option Row → Option Row
row_left order entry = if nat_lt order.cum order.quantity then option_map (row_by_now order) entry else None

-- there is an entry for each order, and the row of each order is what is left of it
pub record AreStanding (entries : List (Option Row)) (s : State) : Type 0 where
  pub count : length entries ≡ length s.orders
  pub rows : (k : ℕ) (order : Order) (entry : Option Row) → slice_get s.orders k ≡ Some order → slice_get entries k ≡ Some entry → option_map (λ x. x.row) (row_of_order k (resting s)) ≡ row_left order entry

-- so after every history whose events are numbered
abbrev pub RowsStand : Type 0
RowsStand =
    (markets tick : ℕ) (history : List Event)
    → IsNumbered history
    → AreStanding (entry_rows markets tick history) (runs markets tick history).state

-- ---- one more event of a history

pub same_run : (tick : ℕ) (so_far : EntryRun) (events : List Event) → (fold (entry_step tick) so_far events).run ≡ fold (step tick) so_far.run events
same_run tick so_far [] = refl
same_run tick so_far (event ∷ events) = same_run tick (entry_step tick so_far event) events

fold_one : (tick : ℕ) (so_far : EntryRun) (events : List Event) (event : Event) → fold (entry_step tick) so_far (events ++ event ∷ []) ≡ entry_step tick (fold (entry_step tick) so_far events) event
fold_one tick so_far [] event = refl
fold_one tick so_far (first ∷ events) event = fold_one tick (entry_step tick so_far first) events event

-- the entries after one more event are those that it makes of the entries before it
pub next_entries : (markets tick : ℕ) (history : List Event) (event : Event) → entry_rows markets tick (history ++ event ∷ []) ≡ entries_after tick (runs markets tick history).state event.number event.command (entry_rows markets tick history)
unfolding runs
next_entries markets tick history event =
    let first : EntryRun = record { run = record { state = initial markets; reports = [] }; entries = [] } in
    let before : EntryRun = fold (entry_step tick) first history in
    ap (λ (so_far : EntryRun). so_far.entries) (fold_one tick first history event)
    ∙ ap (λ (run : Run). entries_after tick run.state event.number event.command before.entries) (same_run tick first history)
