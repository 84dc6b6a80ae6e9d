-- The reports are at most four for each event.
use Rattle.std.proofs.Common.{◌≡◌, ℕ, ◌+◌, ◌-◌, ◌*◌, ◌≤◌, Bool, true, false, cond, not, List, [], ◌∷◌, ◌++◌, length, Option, Some, None, refl, sym, subst, arith}
use Rattle.std.specs.Prelude.{fold, flat_map, nat_lt, option_map, option_to_list, ◌==◌}
use Rattle.std.proofs.lemmas.List.{length-append}
use Rattle.venue_words.specs.declared.command.Command.{Command}
use Rattle.venue_words.specs.declared.command.Command.TheVariants.{Quote, New, Cancel, Replace, Status as Request}
use Rattle.venue_words.specs.declared.command.Event.{Event}
use Rattle.venue_words.specs.declared.rule.Rule.{Rule}
use Rattle.venue_words.specs.declared.terms.Terms.{Terms}
use Rattle.venue_words.specs.declared.price.Best.{Best}
use Rattle.venue_words.specs.declared.price.Side.{Side}
use Rattle.venue_words.specs.declared.row.Row.{Row}
use Rattle.venue_words.specs.declared.row.Priced.{Priced}
use Rattle.venue_words.specs.ListLaws.{all_weaken}
use Rattle.venue_words.specs.Best.{best_of}
use Rattle.venue_words.specs.Retime.{reprice}
use Rattle.venue_words.specs.Rows.{IsAbsent}
use Rattle.eager_meaning.specs.declared.notice.Notice.{Notice}
use Rattle.eager_meaning.specs.declared.order.Order.{Order}
use Rattle.eager_meaning.specs.declared.order.Live.{Live}
use Rattle.eager_meaning.specs.declared.trade.Fill.{Fill}
use Rattle.eager_meaning.specs.declared.trade.Party.{Party}
use Rattle.eager_meaning.specs.State.{State, Outcome, initial, own_rows, other_rows, resting, with_no_notice}
use Rattle.eager_meaning.specs.Matching.{takes_of, row_after, unfilled}
use Rattle.eager_meaning.specs.Walk.{total_of}
use Rattle.eager_meaning.specs.Orders.{live_named, is_used, known_of}
use Rattle.eager_meaning.specs.Quoting.{requote, on_quote, with_quote, same_best}
use Rattle.eager_meaning.specs.Recheck.{Matched, recheck}
use Rattle.eager_meaning.specs.Trades.{orders_after, orders_after_all, trade_notice, trade_notices}
use Rattle.eager_meaning.specs.Terms.{quantity_of}
use Rattle.eager_meaning.specs.Verdict.{verdict}
use Rattle.eager_meaning.specs.Entering.{Arrival, Entered, entered, leftover_notice, leftover_notices, enter, arrival_of_new, on_new}
use Rattle.eager_meaning.specs.Changing.{cancel, on_cancel, only_lowers, with_leaves, resize, arrival_of_replace, on_replace}
use Rattle.eager_meaning.specs.Step.{Run, runs, step, on_status, outcome_of, reports_from}
use Rattle.market_laws.specs.Sound.{AreDifferent, IsNew, AllDiffer, IsLiveRow, AreSound, IsSound}
use Rattle.market_laws.specs.Apart.{HasLeaves, EntriesDiffer}
use Rattle.market_laws.specs.Fewer.{AreBothResting, few_of_recheck, few_of_entered}
use Rattle.market_laws.specs.Reports.{TellsAtMost, ReportsAreFew}
use Rattle.market_laws.proofs.Admitting.{RowsAgree, IsSoundArrival, new_arrival, own_first, new_to_own, new_to_others}
use Rattle.market_laws.proofs.Agreeing.{step_sound, no_order}
use Rattle.market_laws.proofs.Counting.{length_map, length_filter, reprice_length, rows_in, rows_put, rows_of_sides}
use Rattle.market_laws.proofs.Numbering.{kept_by_all, numbered_from_none}
use Rattle.market_laws.proofs.Replacing.{replace_arrival}
use Rattle.market_laws.proofs.Sweeping.{reprice_sound}

-- ---- rows that agree with their orders rest

absent_of_new : (x : Row) (rows : List Priced) → IsNew x rows → IsAbsent x.entry rows
absent_of_new x rows a = all_weaken (λ y. AreDifferent x y.row) (λ y. y.row.entry ≡ x.entry → ⊥) (λ y d e. d.entry (sym e)) rows a

entries_differ : (rows : List Priced) → AllDiffer rows → EntriesDiffer rows
entries_differ [] a = tt
entries_differ (x ∷ xs) a = (absent_of_new x.row xs a.0, entries_differ xs a.1)

pub both_rest : (n : ℕ) (orders : List Order) (own others : List Priced) → AreSound n orders own others → AreBothResting own others
both_rest n orders own others a =
    let leaves : (x : Priced) → IsLiveRow n orders x.row → HasLeaves x = λ x l. (let left = l.left in omega arith) in
    record {
      own = record { leaves = all_weaken (λ x. IsLiveRow n orders x.row) HasLeaves leaves own a.own_live; differ = entries_differ own a.own_differ };
      others = record { leaves = all_weaken (λ x. IsLiveRow n orders x.row) HasLeaves leaves others a.others_live; differ = entries_differ others a.others_differ };
      apart = all_weaken (λ x. IsNew x.row others) (λ x. IsAbsent x.row.entry others) (λ x d. absent_of_new x.row others d) own a.differ;
    }

-- ---- notices

found_few : {A B : Type 0} (f : A → B) (found : Option A) → length (option_to_list (option_map f found)) ≤ 1
found_few f None = omega arith
found_few f (Some x) = omega arith

trade_few : (fill : Fill) (orders : List Order) (party : Party) → length (trade_notice fill orders party) ≤ 1
unfolding trade_notice
trade_few fill orders party = found_few _ _

trades_few : (fills : List Fill) (orders : List Order) → length (trade_notices fills orders) ≤ 2 * length fills
unfolding trade_notices
trades_few [] orders = omega arith
trades_few (fill ∷ fills) orders =
    let next : List Order = orders_after fill orders in
    let more = trades_few fills next in
    let taker = trade_few fill next fill.taker in
    let contra = trade_few fill next fill.contra in
    let one = length-append (trade_notice fill next fill.taker) (trade_notice fill next fill.contra ++ trade_notices fills next) in
    let two = length-append (trade_notice fill next fill.contra) (trade_notices fills next) in
    omega (arith, more, taker, contra, one, two)

left_few : (immediate : Bool) (x : Priced) (orders : List Order) → length (leftover_notices immediate (unfilled (x ∷ [])) orders) ≤ 1
unfolding leftover_notices
left_few false x orders = omega arith
left_few true x orders =
    let here : List Notice = leftover_notice x.row.order orders in
    let one : length here ≤ 1 = found_few _ _ in
    let joined = length-append here [] in
    elim (nat_lt 0 x.row.leaves) as (λ b. length (flat_map (λ (y : Priced). leftover_notice y.row.order orders) (cond b (x ∷ []) [])) ≤ 1)
    [ true ↦ omega (arith, one, joined) | false ↦ omega arith ]

-- ---- events

-- what an event tells, and two more for each row that it adds, are at most four
abbrev pub TellsFew : State → Outcome → Type 0
TellsFew s outcome = length outcome.notices + 2 * rows_in outcome.state ≤ 2 * rows_in s + 4

quote_few : (n event market : ℕ) (quote : Best) (s : State) → RowsAgree n s → TellsFew s (on_quote event market quote s)
unfolding on_quote requote
quote_few n event market quote s a =
    let next : State = with_quote market quote s in
    let best : Best = best_of next.markets in
    let buys : List Priced = reprice event best s.buys in
    let sells : List Priced = reprice event best s.sells in
    let matched : Matched = recheck buys sells in
    let few = (few_of_recheck buys sells (both_rest n s.orders buys sells (reprice_sound n event best s.orders s.buys s.sells a))).few in
    let told = trades_few matched.fills s.orders in
    let b = reprice_length event best s.buys in
    let c = reprice_length event best s.sells in
    elim (same_best (best_of s.markets) best) as (λ b. TellsFew s (cond b (with_no_notice next) (requote event next))) [ true ↦ omega arith | false ↦ omega (arith, few, told, b, c) ]

enter_few : (n : ℕ) (arrival : Arrival) → IsSoundArrival n arrival → TellsFew arrival.state (enter arrival)
unfolding enter entered
enter_few n arrival a =
    let s : State = arrival.state in
    let x : Priced = arrival.taker in
    let side : Side = x.row.key.side in
    let own : List Priced = own_rows side s in
    let others : List Priced = other_rows side s in
    let after : Entered = entered x arrival.immediate own others in
    let orders : List Order = orders_after_all after.fills s.orders in
    let absent = absent_of_new x.row own (new_to_own side x.row s a.buys a.sells) in
    let apart = absent_of_new x.row others (new_to_others side x.row s a.buys a.sells) in
    let few = (few_of_entered x arrival.immediate own others absent apart (both_rest n s.orders own others (own_first n side s a.rows))).few in
    let trades = trades_few after.fills s.orders in
    let left = left_few arrival.immediate (row_after (total_of (takes_of x others)) x) orders in
    let told = length-append (trade_notices after.fills s.orders) (leftover_notices arrival.immediate after.left orders) in
    let put = rows_put side after.own after.others (record s { orders = orders }) in
    let all = rows_of_sides side s in
    omega (arith, few, trades, left, told, put, all)

new_few : (tick n member : ℕ) (id : List ℕ) (terms : Terms) (broken : Option Rule) (s : State) → RowsAgree n s → TellsFew s (on_new tick (n + 1) member id terms broken s)
unfolding on_new arrival_of_new
new_few tick n member id terms (Some rule) s a = omega arith
new_few tick n member id terms None s a = enter_few (n + 1) (arrival_of_new tick (n + 1) member id terms s) (new_arrival tick n member id terms s a)

cancel_few : (member : ℕ) (id orig : List ℕ) (live : Option Live) (broken : Option Rule) (s : State) → TellsFew s (on_cancel member id orig live broken s)
unfolding on_cancel cancel
cancel_few member id orig live (Some rule) s = omega arith
cancel_few member id orig None None s = omega arith
cancel_few member id orig (Some live) None s =
    let b = length_filter (λ x. not (x.row.entry == live.row.row.entry)) s.buys in
    let c = length_filter (λ x. not (x.row.entry == live.row.row.entry)) s.sells in
    omega (arith, b, c)

replace_few : (tick n member : ℕ) (id orig : List ℕ) (terms : Terms) (live : Option Live) (used : Bool) (broken : Option Rule) (s : State)
    → live_named member orig s.orders (resting s) ≡ live → verdict (Replace member id orig terms) (known_of tick used live) ≡ broken → RowsAgree n s → TellsFew s (on_replace tick (n + 1) member id orig terms live broken s)
unfolding on_replace resize arrival_of_replace
replace_few tick n member id orig terms live used (Some rule) s is v a = omega arith
replace_few tick n member id orig terms None used None s is v a = omega arith
replace_few tick n member id orig terms (Some live) used None s is v a =
    let arrival : Arrival = arrival_of_replace tick (n + 1) member id orig terms live s in
    let b = λ (leaves : ℕ). length_map (with_leaves live.row.row.entry leaves) s.buys in
    let c = λ (leaves : ℕ). length_map (with_leaves live.row.row.entry leaves) s.sells in
    let few = enter_few (n + 1) arrival (replace_arrival tick n member id orig terms live used s is v a) in
    let p = length_filter (λ x. not (x.row.entry == live.row.row.entry)) s.buys in
    let q = length_filter (λ x. not (x.row.entry == live.row.row.entry)) s.sells in
    elim (only_lowers tick terms live) as (λ c. TellsFew s (cond c (resize tick member id orig terms live s) (enter arrival)))
    [ true ↦ omega (arith, b (quantity_of terms - live.order.cum), c (quantity_of terms - live.order.cum)) | false ↦ omega (arith, few, p, q) ]

outcome_few : (tick n : ℕ) (command : Command) (s : State) → RowsAgree n s → TellsFew s (outcome_of tick (n + 1) command s)
unfolding outcome_of on_status
outcome_few tick n (Quote market bid offer) s a = quote_few n (n + 1) market (record { bid = bid; offer = offer }) s a
outcome_few tick n (New member id terms) s a = new_few tick n member id terms _ s a
outcome_few tick n (Cancel member id orig) s a = cancel_few member id orig _ _ s
outcome_few tick n (Replace member id orig terms) s a = replace_few tick n member id orig terms _ (is_used member id s.used) _ s refl refl a
outcome_few tick n (Request member id side) s a = omega arith

-- ---- histories

reports_length : (place : ℕ) (event : Event) (notices : List Notice) → length (reports_from place event notices) ≡ length notices
unfolding reports_from
reports_length place event [] = refl
reports_length place event (notice ∷ notices) = let more = reports_length (place + 1) event notices in omega arith

step_few : (tick n : ℕ) (run : Run) (event : Event) → event.number ≡ n + 1 → IsSound n run.state → TellsAtMost n run → TellsAtMost (n + 1) (step tick run event)
unfolding step
step_few tick n run event number sound most =
    let outcome : Outcome = outcome_of tick event.number event.command run.state in
    let few = subst (λ (m : ℕ). TellsFew run.state (outcome_of tick m event.command run.state)) (sym number) (outcome_few tick n event.command run.state sound.rows) in
    let all = length-append run.reports (reports_from 1 event outcome.notices) in
    let told = reports_length 1 event outcome.notices in
    omega (arith, few, all, told, most)

-- a run after so many events
record IsFew (n : ℕ) (run : Run) : Type 0 where
  sound : IsSound n run.state
  most : TellsAtMost n run

pub reports_are_few : ReportsAreFew
unfolding runs
reports_are_few markets tick history numbered =
    let first : Run = record { state = initial markets; reports = [] } in
    let next : (n : ℕ) (run : Run) (event : Event) → event.number ≡ n + 1 → IsFew n run → IsFew (n + 1) (step tick run event) =
    λ n run event number is. record { sound = step_sound tick n run event number is.sound; most = step_few tick n run event number is.sound is.most } in
    let all = kept_by_all (step tick) IsFew next 0 first history (numbered_from_none history numbered)
    (record { sound = record { rows = record { own_live = tt; others_live = tt; own_differ = tt; others_differ = tt; differ = tt; sound = no_order }; few = omega arith; fewer = omega arith }; most = omega arith }) in
    let count : 0 + length history ≡ length history = omega arith in
    (subst (λ (n : ℕ). IsFew n (fold (step tick) first history)) count all).most
