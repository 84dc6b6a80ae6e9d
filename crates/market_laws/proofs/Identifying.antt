-- Each identifier that a book holds or tells was given by a command.
use Rattle.std.proofs.Common.{◌≡◌, ℕ, zero, suc, ◌+◌, Bool, true, false, cond, List, [], ◌∷◌, Option, Some, None, refl, subst}
use Rattle.std.specs.Prelude.{fold, find, slice_get, option_map, option_to_list}
use Rattle.std.specs.Option.{option_map_or}
use Rattle.std.specs.List.{AllByRecursion, enumerate_from}
use Rattle.venue_words.specs.declared.command.Command.{Command}
use Rattle.venue_words.specs.declared.command.Command.TheVariants.{Quote, New, Cancel, Replace, Status as Request}
use Rattle.venue_words.specs.declared.command.Event.{Event}
use Rattle.venue_words.specs.declared.rule.Rule.{Rule}
use Rattle.venue_words.specs.declared.terms.Terms.{Terms}
use Rattle.venue_words.specs.declared.price.Best.{Best}
use Rattle.venue_words.specs.declared.price.Side.{Side}
use Rattle.venue_words.specs.declared.price.Side.TheVariants.{Buy, Sell}
use Rattle.venue_words.specs.declared.report.Execution.TheVariants.{Status}
use Rattle.venue_words.specs.declared.report.Kind.TheVariants.{Order as OrderReport, Unknown}
use Rattle.venue_words.specs.declared.report.LiveOrder.{LiveOrder}
use Rattle.venue_words.specs.declared.row.Priced.{Priced}
use Rattle.venue_words.specs.ListLaws.{all_append}
use Rattle.venue_words.specs.Best.{best_of}
use Rattle.eager_meaning.specs.declared.notice.Notice.{Notice}
use Rattle.eager_meaning.specs.declared.order.Order.{Order}
use Rattle.eager_meaning.specs.declared.order.Live.{Live}
use Rattle.eager_meaning.specs.declared.trade.Fill.{Fill}
use Rattle.eager_meaning.specs.State.{State, Outcome, own_rows, other_rows, with_rows, with_no_notice, with_notice}
use Rattle.eager_meaning.specs.Orders.{changed_at, is_named, order_named}
use Rattle.eager_meaning.specs.Quoting.{requote, on_quote, with_quote, same_best}
use Rattle.eager_meaning.specs.Showing.{view_with}
use Rattle.eager_meaning.specs.Trades.{order_after, orders_after, orders_after_all, trade_notice, trade_notices}
use Rattle.eager_meaning.specs.Entering.{Arrival, Entered, entered, leftover_notice, leftover_notices, enter, accepted_order, arrival_of_new, on_new}
use Rattle.eager_meaning.specs.Changing.{cancel, on_cancel, replaced_order, only_lowers, resize, arrival_of_replace, on_replace}
use Rattle.eager_meaning.specs.Step.{Run, runs, step, view_now, on_status, outcome_of, reports_from}
use Rattle.market_laws.specs.Ids.{IsShort, EachGiven, EachTold, EachHeld, IdsAreShort}
use Rattle.market_laws.specs.ListLaws.{all_flat}
use Rattle.market_laws.specs.ChangedLaws.{changed_next}

-- ---- lists

all_changed : {A : Type 0} (P : A → Type 0) (f : A → A) → ((x : A) → P x → P (f x)) → (k : ℕ) (xs : List A) → AllByRecursion P xs → AllByRecursion P (changed_at f k xs)
all_changed P f h k [] a = tt
all_changed P f h zero (x ∷ xs) a = (h x a.0, a.1)
all_changed P f h (suc k) (x ∷ xs) a = rw (changed_next f k x xs) (a.0, all_changed P f h k xs a.1)

-- what is made of an element, where there is one
all_at : {A B : Type 0} (P : A → Type 0) (Q : B → Type 0) (f : A → B) → ((x : A) → P x → Q (f x)) → (xs : List A) → AllByRecursion P xs → (k : ℕ) → AllByRecursion Q (option_to_list (option_map f (slice_get xs k)))
all_at P Q f h [] a k = tt
all_at P Q f h (x ∷ xs) a zero = (h x a.0, tt)
all_at P Q f h (x ∷ xs) a (suc k) = all_at P Q f h xs a.1 k

module _ (P : List ℕ → Type 0) where
  -- ---- trades

  abbrev AreHeld : List Order → Type 0
  AreHeld orders = AllByRecursion (λ order. P order.id) orders

  abbrev AreTold : List Notice → Type 0
  AreTold notices = AllByRecursion (λ notice. EachTold P notice.kind) notices

  after_trade : (fill : Fill) (orders : List Order) → AreHeld orders → AreHeld (orders_after fill orders)
  unfolding orders_after order_after
  after_trade fill orders a =
      all_changed (λ order. P order.id) (order_after fill) (λ order p. p) fill.contra.order (changed_at (order_after fill) fill.taker.order orders)
      (all_changed (λ order. P order.id) (order_after fill) (λ order p. p) fill.taker.order orders a)

  after_trades : (fills : List Fill) (orders : List Order) → AreHeld orders → AreHeld (orders_after_all fills orders)
  unfolding orders_after_all
  after_trades [] orders a = a
  after_trades (fill ∷ fills) orders a = after_trades fills (orders_after fill orders) (after_trade fill orders a)

  shown_id : (order : Order) (live : Option LiveOrder) → P order.id → P (view_with order live).id
  unfolding view_with
  shown_id order live p = p

  trades_told : (fills : List Fill) (orders : List Order) → AreHeld orders → AreTold (trade_notices fills orders)
  unfolding trade_notices trade_notice
  trades_told [] orders a = tt
  trades_told (fill ∷ fills) orders a =
      let next : List Order = orders_after fill orders in
      let held = after_trade fill orders a in
      all_append (λ notice. EachTold P notice.kind) (trade_notice fill next fill.taker) _
      (all_at (λ order. P order.id) (λ notice. EachTold P notice.kind) _ (λ order p. (shown_id order _ p, tt)) next held fill.taker.order)
      (all_append (λ notice. EachTold P notice.kind) (trade_notice fill next fill.contra) _
      (all_at (λ order. P order.id) (λ notice. EachTold P notice.kind) _ (λ order p. (shown_id order _ p, tt)) next held fill.contra.order)
      (trades_told fills next held))

  none_of : (id : List ℕ) → None ≡ Some id → P id
  none_of id e = cc

  left_told : (immediate : Bool) (left : List Priced) (orders : List Order) → AreHeld orders → AreTold (leftover_notices immediate left orders)
  unfolding leftover_notices
  left_told true left orders a =
      all_flat (λ notice. EachTold P notice.kind) (λ x. leftover_notice x.row.order orders)
      (λ x. all_at (λ order. P order.id) (λ notice. EachTold P notice.kind) _ (λ order p. (shown_id order _ p, none_of)) orders a x.row.order) left
  left_told false left orders a = tt

  -- ---- events

  -- each identifier that a state holds
  record StateHolds (s : State) : Type 0 where
    orders : AreHeld s.orders
    used : AllByRecursion (λ name. P name.1) s.used

  -- and each that an outcome tells
  record OutcomeHolds (outcome : Outcome) : Type 0 where
    state : StateHolds outcome.state
    told : AreTold outcome.notices

  quote_holds : (event market : ℕ) (quote : Best) (s : State) → StateHolds s → OutcomeHolds (on_quote event market quote s)
  unfolding on_quote requote
  quote_holds event market quote s a =
      let next : State = with_quote market quote s in
      elim (same_best (best_of s.markets) (best_of next.markets)) as (λ b. OutcomeHolds (cond b (with_no_notice next) (requote event next))) [
        | true ↦ record { state = record { orders = a.orders; used = a.used }; told = tt }
        | false ↦ record { state = record { orders = after_trades _ s.orders a.orders; used = a.used }; told = trades_told _ s.orders a.orders }
      ]

  with_rows_holds : (side : Side) (own others : List Priced) (s : State) → StateHolds s → StateHolds (with_rows side own others s)
  with_rows_holds Buy own others s a = record { orders = a.orders; used = a.used }
  with_rows_holds Sell own others s a = record { orders = a.orders; used = a.used }

  enter_holds : (arrival : Arrival) → StateHolds arrival.state → EachTold P arrival.notice.kind → OutcomeHolds (enter arrival)
  unfolding enter
  enter_holds arrival a first =
      let s : State = arrival.state in
      let side : Side = arrival.taker.row.key.side in
      let after : Entered = entered arrival.taker arrival.immediate (own_rows side s) (other_rows side s) in
      let orders : List Order = orders_after_all after.fills s.orders in
      let held = after_trades after.fills s.orders a.orders in
      record {
        state = with_rows_holds side after.own after.others (record s { orders = orders }) (record { orders = held; used = a.used });
        told = (first, all_append (λ notice. EachTold P notice.kind) (trade_notices after.fills s.orders) _ (trades_told after.fills s.orders a.orders) (left_told arrival.immediate after.left orders held));
      }

  new_holds : (tick event member : ℕ) (id : List ℕ) (terms : Terms) (broken : Option Rule) (s : State) → P id → StateHolds s → OutcomeHolds (on_new tick event member id terms broken s)
  unfolding on_new arrival_of_new accepted_order
  new_holds tick event member id terms (Some rule) s p a = record { state = a; told = (p, tt) }
  new_holds tick event member id terms None s p a =
      let order : Order = accepted_order tick event member id terms in
      let arrival : Arrival = arrival_of_new tick event member id terms s in
      enter_holds arrival
      (record { orders = all_append (λ x. P x.id) s.orders (order ∷ []) a.orders (p, tt); used = all_append (λ name. P name.1) s.used ((member, id) ∷ []) a.used (p, tt) })
      (shown_id order _ p, tt)

  some_id : (orig id : List ℕ) → P orig → Some orig ≡ Some id → P id
  some_id orig id p e = let same : orig ≡ id = cc in subst P same p

  cancel_holds : (member : ℕ) (id orig : List ℕ) (live : Option Live) (broken : Option Rule) (s : State) → P id → P orig → StateHolds s → OutcomeHolds (on_cancel member id orig live broken s)
  unfolding on_cancel cancel
  cancel_holds member id orig live (Some rule) s p q a = record { state = a; told = ((p, q), tt) }
  cancel_holds member id orig None None s p q a = record { state = a; told = tt }
  cancel_holds member id orig (Some live) None s p q a =
      record {
        state = record { orders = a.orders; used = all_append (λ name. P name.1) s.used ((member, id) ∷ []) a.used (p, tt) };
        told = ((p, λ x e. some_id orig x q e), tt);
      }

  replace_holds : (tick event member : ℕ) (id orig : List ℕ) (terms : Terms) (live : Option Live) (broken : Option Rule) (s : State) → P id → P orig → StateHolds s → OutcomeHolds (on_replace tick event member id orig terms live broken s)
  unfolding on_replace resize arrival_of_replace
  replace_holds tick event member id orig terms live (Some rule) s p q a = record { state = a; told = ((p, q), tt) }
  replace_holds tick event member id orig terms None None s p q a = record { state = a; told = tt }
  replace_holds tick event member id orig terms (Some live) None s p q a =
      let order : Order = replaced_order tick id terms live.order in
      let arrival : Arrival = arrival_of_replace tick event member id orig terms live s in
      let held = all_changed (λ x. P x.id) (replaced_order tick id terms) (λ x old. p) live.number s.orders a.orders in
      let used = all_append (λ name. P name.1) s.used ((member, id) ∷ []) a.used (p, tt) in
      elim (only_lowers tick terms live) as (λ b. OutcomeHolds (cond b (resize tick member id orig terms live s) (enter arrival))) [
        | true ↦ record { state = record { orders = held; used = used }; told = ((shown_id order _ p, q), tt) }
        | false ↦ enter_holds arrival (record { orders = held; used = used }) (shown_id order _ p, q)
      ]

  -- an order that is found is one of the orders
  found_id : (test : ℕ × Order → Bool) (from : ℕ) (orders : List Order) (found : ℕ × Order) → find test (enumerate_from from orders) ≡ Some found → AreHeld orders → P found.1.id
  found_id test from [] found h a = cc
  found_id test from (order ∷ orders) found h a =
      (elim (test (from, order)) as (λ b. cond b (Some (from, order)) (find test (enumerate_from (from + 1) orders)) ≡ Some found → P found.1.id) [
        | true ↦ λ k. let same : (from, order) ≡ found = cc in subst (λ (x : ℕ × Order). P x.1.id) same a.0
        | false ↦ λ k. found_id test (from + 1) orders found k a.1
      ]) h

  status_holds : (member : ℕ) (id : List ℕ) (side : ℕ) (s : State) → P id → StateHolds s → OutcomeHolds (on_status member id side s)
  unfolding on_status order_named
  status_holds member id side s p a =
      (elim (order_named member id s.orders) as (λ o. order_named member id s.orders ≡ o → OutcomeHolds (with_notice member (option_map_or (λ x. OrderReport (view_now s x) Status) o (Unknown id side)) s)) [
        | None ↦ λ e. record { state = a; told = (p, tt) }
        | Some found ↦ λ e. record { state = a; told = ((shown_id found.1 _ (found_id (λ x. is_named member id x.1) 0 s.orders found e a.orders), tt), tt) }
      ]) refl

  outcome_holds : (tick event : ℕ) (command : Command) (s : State) → EachGiven P command → StateHolds s → OutcomeHolds (outcome_of tick event command s)
  unfolding outcome_of
  outcome_holds tick event (Quote market bid offer) s p a = quote_holds event market (record { bid = bid; offer = offer }) s a
  outcome_holds tick event (New member id terms) s p a = new_holds tick event member id terms _ s p a
  outcome_holds tick event (Cancel member id orig) s p a = cancel_holds member id orig _ _ s p.0 p.1 a
  outcome_holds tick event (Replace member id orig terms) s p a = replace_holds tick event member id orig terms _ _ s p.0 p.1 a
  outcome_holds tick event (Request member id side) s p a = status_holds member id side s p a

  -- ---- histories

  reports_told : (place : ℕ) (event : Event) (notices : List Notice) → AreTold notices → AllByRecursion (λ report. EachTold P report.kind) (reports_from place event notices)
  unfolding reports_from
  reports_told place event [] a = tt
  reports_told place event (notice ∷ notices) a = (a.0, reports_told (place + 1) event notices a.1)

  step_holds : (tick : ℕ) (run : Run) (event : Event) → EachGiven P event.command → EachHeld P run → EachHeld P (step tick run event)
  unfolding step
  step_holds tick run event p a =
      let next = outcome_holds tick event.number event.command run.state p (record { orders = a.orders; used = a.used }) in
      record {
        orders = next.state.orders;
        used = next.state.used;
        reports = all_append (λ report. EachTold P report.kind) run.reports _ a.reports (reports_told 1 event _ next.told);
      }

  all_hold : (tick : ℕ) (run : Run) (events : List Event) → AllByRecursion (λ event. EachGiven P event.command) events → EachHeld P run → EachHeld P (fold (step tick) run events)
  all_hold tick run [] p a = a
  all_hold tick run (event ∷ events) p a = all_hold tick (step tick run event) events p.1 (step_holds tick run event p.0 a)

  pub runs_hold : (markets tick : ℕ) (history : List Event) → AllByRecursion (λ event. EachGiven P event.command) history → EachHeld P (runs markets tick history)
  unfolding runs
  runs_hold markets tick history p = all_hold tick _ history p (record { orders = tt; used = tt; reports = tt })

pub ids_are_short : IdsAreShort
ids_are_short markets tick history given = runs_hold IsShort markets tick history given
