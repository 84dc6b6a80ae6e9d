-- The peg groups, and the orders that matching examines, in worked examples.
use Rattle.std.specs.Prelude.{◌≡◌, ℕ, ◌+◌, ◌*◌, ℤ, pos, List, [], ◌∷◌, Some, None, refl, codes}
use Rattle.venue_words.specs.declared.terms.Terms.{Terms}
use Rattle.venue_words.specs.declared.command.Event.{Event}
use Rattle.venue_words.specs.declared.command.Command.{Command}
use Rattle.venue_words.specs.declared.command.Command.TheVariants.{Quote, New, Cancel, Replace}
use Rattle.venue_words.specs.Best.{best_of}
use Rattle.venue_words.specs.Peg.{peg_value, value_under}
use Rattle.venue_words.specs.Retime.{retime, reprice}
use Rattle.venue_words.specs.Priority.{in_priority, goes_before, is_older}
use Rattle.eager_meaning.specs.State.{State}
use Rattle.eager_meaning.specs.Floor.{floor}
use Rattle.eager_meaning.specs.Walk.{may_fill, taken_from, walk, stands}
use Rattle.eager_meaning.specs.Matching.{takes_of, fill_price, fills_of, row_after, shares_of, rows_after}
use Rattle.eager_meaning.specs.Recheck.{meet, crosses_any, sweep, recheck}
use Rattle.eager_meaning.specs.Terms.{key_of, row_of, price_in, offset_in, quantity_in, minimum_in}
use Rattle.eager_meaning.specs.Verdict.{terms_tests, first_broken, verdict}
use Rattle.eager_meaning.specs.Showing.{view_with, row_of_order}
use Rattle.eager_meaning.specs.Orders.{order_named, live_named, is_used, known_of}
use Rattle.eager_meaning.specs.Trades.{order_after, orders_after, orders_after_all, trade_notice, trade_notices}
use Rattle.eager_meaning.specs.Quoting.{requote, on_quote}
use Rattle.eager_meaning.specs.Entering.{entered, leftover_notices, enter, accepted_order, arrival_of_new, on_new}
use Rattle.eager_meaning.specs.Changing.{arrival_of_replace, only_lowers}
use Rattle.eager_meaning.specs.Step.{outcome_of, reports_from, step, runs}
use Rattle.eager_meaning.specs.Work.{examined, groups}

abbrev shares : ℕ → ℤ
shares n = pos (n * 100000000)

abbrev units : ℕ → ℤ
units n = pos (n * 500000)

-- a mid peg, which the examples change
abbrev mid : ℕ → ℕ → Terms
mid side n =
    record {
      side = side;
      quantity = shares n;
      kind = 80;
      price = None;
      force = None;
      minimum = None;
      method = None;
      peg = Some 2;
      offset = None;
      offset_kind = None;
      moves = None;
      round = None;
    }

abbrev limit : ℕ → ℕ → ℕ → Terms
limit side n price = record (mid side n) { kind = 50; price = Some (units price); peg = None }

-- the events, numbered
abbrev events_from : ℕ → List Command → List Event
events_from n [] = []
events_from n (command ∷ commands) =
    record { number = n; feed = 1; moment = pos 0; command = command } ∷ events_from (n + 1) commands

abbrev state_after : List Command → State
state_after commands = (runs 1 2 (events_from 1 commands)).state

-- buys of three keys, at one price
abbrev three_groups : List Command
three_groups =
    Quote 0 (Some 996) (Some 1000)
    ∷ New 1 (codes "b0") (record (mid 49 100) { price = (Some (units 1800)) })
    ∷ New 2 (codes "c1") (record (mid 49 100) { peg = Some 5; offset = Some (pos 2000000) })
    ∷ New 0 (codes "a1") (limit 49 100 2004)
    ∷ New 1 (codes "b1") (mid 49 100)
    ∷ Quote 0 (Some 1000) (Some 1004)
    ∷ []

-- a buy that is kept from two sells by its minimum and that of one of them
abbrev blocked : List Command
blocked =
    Quote 0 (Some 1000) (Some 1001)
    ∷ New 0 (codes "a1") (mid 50 50)
    ∷ New 0 (codes "a2") (record (mid 50 100) { minimum = (Some (shares 100)) })
    ∷ New 1 (codes "b1") (record (mid 49 100) { minimum = (Some (shares 100)) })
    ∷ []

-- one buy, held at its limit
abbrev held : List Command
held = Quote 0 (Some 1000) (Some 1002) ∷ New 0 (codes "a1") (record (mid 49 100) { price = (Some (units 2000)) }) ∷ []

-- an immediate sell goes through two buys
abbrev immediate : Command
immediate = New 3 (codes "d1") (record (limit 50 150 2000) { force = Some 51 })

-- a replace that lowers the minimum too, and one that keeps all terms
abbrev lowering : Command
lowering = Replace 1 (codes "b2") (codes "b1") (record (mid 49 90) { minimum = (Some (shares 90)) })

abbrev keeping : Command
keeping = Replace 1 (codes "b2") (codes "b1") (record (mid 49 100) { minimum = (Some (shares 100)) })

-- the groups of a book; then what is examined by a sell that enters, by a recheck of both sides with blocked takers, by
-- a cancel, by a recheck with one taker, by a quote that changes nothing, by a replace that enters anew, and by one that
-- doesn't
worked :
    groups (state_after three_groups)
    ∷ examined 2 (state_after three_groups) 7 immediate
    ∷ examined 2 (state_after blocked) 5 (Quote 0 (Some 1001) (Some 1002))
    ∷ examined 2 (state_after blocked) 5 (Cancel 0 (codes "a3") (codes "a1"))
    ∷ examined 2 (state_after held) 3 (Quote 0 (Some 1001) (Some 1003))
    ∷ examined 2 (state_after held) 3 (Quote 0 (Some 1000) (Some 1002))
    ∷ examined 2 (state_after blocked) 5 lowering
    ∷ examined 2 (state_after blocked) 5 keeping
    ∷ []
    ≡ 3 ∷ 3 ∷ 7 ∷ 0 ∷ 1 ∷ 0 ∷ 3 ∷ 0 ∷ []
unfolding
    best_of peg_value value_under retime reprice in_priority goes_before is_older floor may_fill taken_from walk stands
    takes_of fill_price fills_of row_after shares_of rows_after meet crosses_any sweep recheck key_of row_of price_in
    offset_in quantity_in minimum_in terms_tests first_broken verdict view_with row_of_order order_named
    live_named is_used known_of order_after orders_after orders_after_all trade_notice trade_notices requote on_quote
    entered leftover_notices enter accepted_order arrival_of_new on_new arrival_of_replace only_lowers outcome_of
    reports_from step runs
worked = refl
