-- What each command leaves of the used ids, and what a Replace leaves of the rows with which orders entered.
use Rattle.std.specs.Prelude.{ℕ, if◌then◌else◌, List, [], ◌∷◌, ◌++◌, length, slice_set, Option, None}
use Rattle.std.specs.Option.{option_map_or}
use Rattle.venue_words.specs.declared.command.Command.{Command}
use Rattle.venue_words.specs.declared.command.Command.TheVariants.{Quote, New, Cancel, Replace, Status}
use Rattle.venue_words.specs.declared.rule.Rule.{Rule}
use Rattle.venue_words.specs.declared.terms.Terms.{Terms}
use Rattle.venue_words.specs.declared.row.Row.{Row}
use Rattle.eager_meaning.specs.declared.order.Live.{Live}
use Rattle.eager_meaning.specs.Changing.{only_lowers, arrival_of_replace}
use Rattle.eager_meaning.specs.Work.{examined_by_arrival}
use Rattle.eager_meaning.specs.Orders.{known_of, is_used, live_named}
use Rattle.eager_meaning.specs.State.{State, resting}
use Rattle.eager_meaning.specs.Terms.{is_immediate, row_of}
use Rattle.eager_meaning.specs.Verdict.{verdict}
use Rattle.market_laws.specs.Standing.{if_it_rests}
use Rattle.symbol_book.specs.Ids.{UsedId}

-- the rule that a command breaks, with the live order that it names
abbrev pub broken_by : ℕ → ℕ → List ℕ → Command → State → Option Live → Option Rule
broken_by tick member id command s live = verdict command (known_of tick (is_used member id s.used) live)

-- the rows after a Replace that breaks no rule
abbrev pub entered_by_replace : ℕ → ℕ → ℕ → Terms → Live → List (Option Row) → List (Option Row)
entered_by_replace tick event member terms live entered =
    if only_lowers tick terms live
    then entered
    else slice_set entered live.number
    (if_it_rests (is_immediate terms) (row_of tick event live.number member live.order.cum terms))

-- the orders that a Replace that breaks no rule examines
abbrev pub examined_by_replace : ℕ → ℕ → ℕ → List ℕ → List ℕ → Terms → Live → State → ℕ
examined_by_replace tick event member id orig terms live s =
    if only_lowers tick terms live then 0 else examined_by_arrival (arrival_of_replace tick event member id orig terms live s)

-- one more id, used for an order
abbrev pub with_id : ℕ → List ℕ → ℕ → List UsedId → List UsedId
with_id member id order entries = entries ++ record { member = member; id = id; order = order } ∷ []

-- the ids after each command
unfoldable pub ids_after : ℕ → Command → State → List UsedId → List UsedId
ids_after tick (Quote market bid offer) s entries = entries
ids_after tick (New member id terms) s entries =
    option_map_or (λ rule. entries) (broken_by tick member id (New member id terms) s None)
    (with_id member id (length s.orders) entries)
ids_after tick (Cancel member id orig) s entries =
    let live = live_named member orig s.orders (resting s) in
    option_map_or (λ rule. entries) (broken_by tick member id (Cancel member id orig) s live)
    (option_map_or (λ found. with_id member id found.number entries) live entries)
ids_after tick (Replace member id orig terms) s entries =
    let live = live_named member orig s.orders (resting s) in
    option_map_or (λ rule. entries) (broken_by tick member id (Replace member id orig terms) s live)
    (option_map_or (λ found. with_id member id found.number entries) live entries)
ids_after tick (Status member id side) s entries = entries
