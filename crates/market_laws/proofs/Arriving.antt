-- The trades of an order that enters fit their orders.
use Rattle.std.proofs.Common.{ℕ, ◌+◌, List, length}
use Rattle.venue_words.specs.ListLaws.{all_weaken}
use Rattle.venue_words.specs.declared.price.Side.{Side}
use Rattle.venue_words.specs.declared.row.Priced.{Priced}
use Rattle.venue_words.specs.Best.{best_of}
use Rattle.eager_meaning.specs.declared.trade.Fill.{Fill}
use Rattle.eager_meaning.specs.State.{State, own_rows, other_rows}
use Rattle.eager_meaning.specs.Entering.{Arrival, arrival_of_new}
use Rattle.eager_meaning.specs.Step.{runs}
use Rattle.market_laws.specs.Fitting.{FillsFit, arrival_fills, NewTradesFit, ReplaceTradesFit}
use Rattle.market_laws.proofs.Admitting.{IsSoundArrival, new_arrival, entered_sound, own_first, new_to_own, new_to_others}
use Rattle.market_laws.proofs.Agreeing.{book_is_sound}
use Rattle.market_laws.proofs.Allowing.{AreThere, fills_fit, fit_from}
use Rattle.market_laws.proofs.Lasting.{rows_placed}
use Rattle.market_laws.proofs.Meeting.{IsFairFill}
use Rattle.market_laws.proofs.Replacing.{replace_arrival}
use Rattle.eager_meaning.specs.Changing.{arrival_of_replace}
use Rattle.eager_meaning.specs.Orders.{is_used}
use Rattle.market_laws.proofs.Settling.{IsPlacedArrival, new_placed, replace_placed, entered_fair, own_placed, other_placed}

arrival_fits : (n : ℕ) (arrival : Arrival) → IsSoundArrival n arrival → IsPlacedArrival arrival → FillsFit (arrival_fills arrival) arrival.state.orders
arrival_fits n arrival a p =
    let s : State = arrival.state in
    let side : Side = arrival.taker.row.key.side in
    let own : List Priced = own_rows side s in
    let others : List Priced = other_rows side s in
    let fair = entered_fair (best_of s.markets) s.orders side arrival.taker arrival.immediate own others p.taker (own_placed side s p.rows) (other_placed side s p.rows) in
    let sound = entered_sound n s.orders arrival.taker arrival.immediate own others a.held (new_to_own side arrival.taker.row s a.buys a.sells) (new_to_others side arrival.taker.row s a.buys a.sells) (own_first n side s a.rows) in
    let fills : List Fill = arrival_fills arrival in
    fills_fit fills s.orders
    (all_weaken (IsFairFill (best_of s.markets) s.orders) (AreThere s.orders) (λ f q. record { side = q.side; taker = q.taker; contra = q.contra }) fills fair.fills)
    (fit_from s.orders fills sound.sound)

pub new_trades_fit : NewTradesFit
new_trades_fit markets tick history numbered member id terms =
    let s : State = (runs markets tick history).state in
    arrival_fits (length history + 1) (arrival_of_new tick (length history + 1) member id terms s)
    (new_arrival tick (length history) member id terms s (book_is_sound markets tick history numbered).rows)
    (new_placed tick (length history + 1) member id terms s (rows_placed markets tick history))

pub replace_trades_fit : ReplaceTradesFit
replace_trades_fit markets tick history numbered member id orig terms live is v =
    let s : State = (runs markets tick history).state in
    arrival_fits (length history + 1) (arrival_of_replace tick (length history + 1) member id orig terms live s)
    (replace_arrival tick (length history) member id orig terms live (is_used member id s.used) s is v (book_is_sound markets tick history numbered).rows)
    (replace_placed tick (length history + 1) member id orig terms live (is_used member id s.used) s is v (rows_placed markets tick history))
