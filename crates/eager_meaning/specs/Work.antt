-- How much work an event is.
use Rattle.std.specs.Prelude.{ℕ, ◌+◌, ◌*◌, if◌then◌else◌, List, [], ◌∷◌, length, None}
use Rattle.std.specs.List.{list_any}
use Rattle.std.specs.Option.{option_map_or}
use Rattle.venue_words.specs.declared.row.Priced.{Priced}
use Rattle.venue_words.specs.declared.command.Command.{Command}
use Rattle.venue_words.specs.declared.command.Command.TheVariants.{Quote, New, Cancel, Replace, Status}
use Rattle.venue_words.specs.Best.{best_of}
use Rattle.venue_words.specs.Key.{same_key}
use Rattle.venue_words.specs.Priority.{in_priority}
use Rattle.venue_words.specs.Retime.{reprice}
use Rattle.eager_meaning.specs.State.{State, resting, other_rows}
use Rattle.eager_meaning.specs.Walk.{walk}
use Rattle.eager_meaning.specs.Recheck.{Sides, meet, crosses_any, sweep}
use Rattle.eager_meaning.specs.Orders.{known_of, is_used, live_named}
use Rattle.eager_meaning.specs.Verdict.{verdict}
use Rattle.eager_meaning.specs.Quoting.{same_best, with_quote}
use Rattle.eager_meaning.specs.Entering.{Arrival, arrival_of_new}
use Rattle.eager_meaning.specs.Changing.{arrival_of_replace, only_lowers}

-- how many different keys the rows have
abbrev pub key_count : List Priced → ℕ
key_count [] = 0
key_count (x ∷ xs) = if list_any (λ y. same_key x.row.key y.row.key) xs then key_count xs else 1 + key_count xs

-- the peg groups: the different keys of the resting rows
abbrev pub groups : State → ℕ
groups s = key_count (resting s)

-- the taker, and the contras that its walk goes through
abbrev pub examined_by : Priced → List Priced → ℕ
examined_by taker others = 1 + length (walk taker taker.row.leaves (in_priority others))

-- over the takers of one side, with the one that crosses nothing, at which the side stops
abbrev pub examined_in_sweep : List Priced → Sides → ℕ
examined_in_sweep [] sides = 0
examined_in_sweep (taker ∷ takers) sides =
    examined_by taker sides.others
    + (if crosses_any taker sides.others then examined_in_sweep takers (meet taker sides) else 0)

-- over the takers of both sides
abbrev pub examined_in_recheck : List Priced → List Priced → ℕ
examined_in_recheck buys sells =
    let start : Sides = record { own = buys; others = sells; fills = [] } in
    let first = sweep (in_priority buys) start in
    examined_in_sweep (in_priority buys) start
    + examined_in_sweep
    (in_priority first.others)
    (record { own = first.others; others = first.own; fills = first.fills })

-- by a quote: nothing where the national one stays
abbrev pub examined_by_quote : ℕ → State → State → ℕ
examined_by_quote event before after =
    let best = best_of after.markets in
    if same_best (best_of before.markets) best
    then 0
    else examined_in_recheck (reprice event best after.buys) (reprice event best after.sells)

-- by an order that enters
abbrev pub examined_by_arrival : Arrival → ℕ
examined_by_arrival arrival = examined_by arrival.taker (other_rows arrival.taker.row.key.side arrival.state)

-- the orders that matching examines at an event
abbrev pub examined : ℕ → State → ℕ → Command → ℕ
examined tick s event (Quote market bid offer) =
    examined_by_quote event s (with_quote market (record { bid = bid; offer = offer }) s)
examined tick s event (New member id terms) =
    let broken = verdict (New member id terms) (known_of tick (is_used member id s.used) None) in
    option_map_or (λ rule. 0) broken (examined_by_arrival (arrival_of_new tick event member id terms s))
examined tick s event (Cancel member id orig) = 0
examined tick s event (Replace member id orig terms) =
    let live = live_named member orig s.orders (resting s) in
    let broken = verdict (Replace member id orig terms) (known_of tick (is_used member id s.used) live) in
    option_map_or (λ rule. 0) broken
    (option_map_or
    (λ found.
    if only_lowers tick terms found
    then 0
    else examined_by_arrival (arrival_of_replace tick event member id orig terms found s))
    live 0)
examined tick s event (Status member id side) = 0

-- the most steps that an event may take, in the state before it
abbrev pub bound : ℕ → State → ℕ → Command → ℕ
bound tick s event command = 4096 * (groups s + 1) * (examined tick s event command + 1)
