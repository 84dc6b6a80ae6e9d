-- What each event keeps of names.
use Rattle.std.proofs.Common.{◌≡◌, ℕ, ◌+◌, Bool, true, false, cond, List, [], ◌∷◌, ◌++◌, Option, Some, None, refl, ap, sym, ◌∙◌, subst}
use Rattle.std.specs.Prelude.{flat_map, fold, slice_get}
use Rattle.std.specs.Option.{option_map_or}
use Rattle.std.specs.List.{AllByRecursion}
use Rattle.std.proofs.lemmas.Grind.{flat_map-append}
use Rattle.std.proofs.lemmas.List.{append-nil, map-append}
use Rattle.venue_words.specs.declared.command.Command.{Command}
use Rattle.venue_words.specs.declared.command.Command.TheVariants.{Quote, New, Cancel, Replace, Status as Request}
use Rattle.venue_words.specs.declared.command.Event.{Event}
use Rattle.venue_words.specs.declared.rule.Rule.{Rule}
use Rattle.venue_words.specs.declared.terms.Terms.{Terms}
use Rattle.venue_words.specs.declared.price.Best.{Best}
use Rattle.venue_words.specs.declared.price.Side.{Side}
use Rattle.venue_words.specs.declared.price.Side.TheVariants.{Buy, Sell}
use Rattle.venue_words.specs.declared.report.Execution.TheVariants.{Status}
use Rattle.venue_words.specs.declared.report.Kind.TheVariants.{Order as OrderReport, Unknown}
use Rattle.venue_words.specs.declared.report.Report.{Report}
use Rattle.venue_words.specs.declared.row.Priced.{Priced}
use Rattle.venue_words.specs.ListLaws.{all_weaken, all_append}
use Rattle.venue_words.specs.Best.{best_of}
use Rattle.eager_meaning.specs.declared.notice.Notice.{Notice}
use Rattle.eager_meaning.specs.declared.order.Order.{Order}
use Rattle.eager_meaning.specs.declared.order.Live.{Live}
use Rattle.eager_meaning.specs.declared.trade.Fill.{Fill}
use Rattle.eager_meaning.specs.State.{State, Outcome, initial, own_rows, other_rows, with_rows, resting, with_no_notice, with_notice}
use Rattle.eager_meaning.specs.Orders.{changed_at, order_named, live_named, is_used, known_of}
use Rattle.eager_meaning.specs.Quoting.{requote, on_quote, with_quote, same_best}
use Rattle.eager_meaning.specs.Trades.{order_after, orders_after, orders_after_all, trade_notice, trade_notices}
use Rattle.eager_meaning.specs.Entering.{Arrival, Entered, entered, leftover_notice, leftover_notices, enter, accepted_order, arrival_of_new, on_new}
use Rattle.eager_meaning.specs.Changing.{cancel, on_cancel, replaced_order, only_lowers, resize, arrival_of_replace, on_replace}
use Rattle.eager_meaning.specs.Showing.{view_with}
use Rattle.eager_meaning.specs.Verdict.{Test, first_broken, verdict}
use Rattle.eager_meaning.specs.Step.{Run, runs, step, view_now, on_status, outcome_of, reports_from}
use Rattle.market_laws.specs.ListLaws.{all_found, all_flat}
use Rattle.market_laws.specs.Names.{Name, name_of, AreNamed, OrdersAreNamed, used_by, names_used_by, UsedNamesAreTold}
use Rattle.market_laws.proofs.Distinct.{AreDistinct, distinct_append, put_at, distinct_put, all_put, name_with, map_put, map_kept, all_get, one_place, IsUsed, unused_differs, used_differ, still_used, last_used, names, name_at, found_by_name}
use Rattle.market_laws.specs.LiveLaws.{live_found, live_member}

-- ---- names that stay apart

-- names that are used up once each, among them those of the orders, which differ
record AreUsed (used named : List Name) : Type 0 where
  once : AreDistinct used
  each : AllByRecursion (IsUsed used) named
  differ : AreDistinct named

abbrev HasNames : State → Type 0
HasNames s = AreUsed s.used (names s.orders)

trade_keeps : (fill : Fill) (orders : List Order) → names (orders_after fill orders) ≡ names orders
unfolding orders_after order_after
trade_keeps fill orders =
    map_kept name_of (order_after fill) (λ order. refl) fill.contra.order (changed_at (order_after fill) fill.taker.order orders)
    ∙ map_kept name_of (order_after fill) (λ order. refl) fill.taker.order orders

trades_keep : (fills : List Fill) (orders : List Order) → names (orders_after_all fills orders) ≡ names orders
unfolding orders_after_all
trades_keep [] orders = refl
trades_keep (fill ∷ fills) orders = trades_keep fills (orders_after fill orders) ∙ trade_keeps fill orders

-- one more name is used up
one_more : (member : ℕ) (id : List ℕ) (used named : List Name) → is_used member id used ≡ false → AreUsed used named → AreUsed (used ++ (member, id) ∷ []) named
one_more member id used named h a =
    record {
      once = distinct_append used (member, id) a.once (unused_differs member id used h);
      each = all_weaken (IsUsed used) (IsUsed (used ++ (member, id) ∷ [])) (λ name u. still_used used (member, id) name u) named a.each;
      differ = a.differ;
    }

-- and is that of a new order
new_name : (member : ℕ) (id : List ℕ) (used named : List Name) → is_used member id used ≡ false → AreUsed used named → AreUsed (used ++ (member, id) ∷ []) (named ++ (member, id) ∷ [])
new_name member id used named h a =
    let more = one_more member id used named h a in
    record {
      once = more.once;
      each = all_append (IsUsed (used ++ (member, id) ∷ [])) named ((member, id) ∷ []) more.each (last_used used (member, id), tt);
      differ = distinct_append named (member, id) a.differ (used_differ member id used named h a.each);
    }

-- or the next one of an order
next_name : (member : ℕ) (id : List ℕ) (k : ℕ) (used named : List Name) → is_used member id used ≡ false → AreUsed used named → AreUsed (used ++ (member, id) ∷ []) (put_at (member, id) k named)
next_name member id k used named h a =
    let more = one_more member id used named h a in
    record {
      once = more.once;
      each = all_put (IsUsed (used ++ (member, id) ∷ [])) (member, id) k named (last_used used (member, id)) more.each;
      differ = distinct_put (member, id) k named a.differ (used_differ member id used named h a.each);
    }

-- ---- events

first_holds : (a : Bool) (n : Rule) (rest : List Test) → first_broken ((a, n) ∷ rest) ≡ None → a ≡ false
unfolding first_broken
first_holds true n rest h = cc
first_holds false n rest h = refl

quote_keeps : (event market : ℕ) (quote : Best) (s : State) → HasNames s → HasNames (on_quote event market quote s).state
unfolding on_quote requote
quote_keeps event market quote s a =
    let next : State = with_quote market quote s in
    elim (same_best (best_of s.markets) (best_of next.markets)) as (λ b. HasNames (cond b (with_no_notice next) (requote event next)).state)
    [ true ↦ a | false ↦ subst (AreUsed s.used) (sym (trades_keep _ s.orders)) a ]

put_keeps : (side : Side) (own others : List Priced) (s : State) → HasNames s → HasNames (with_rows side own others s)
put_keeps Buy own others s a = a
put_keeps Sell own others s a = a

enter_keeps : (arrival : Arrival) → HasNames arrival.state → HasNames (enter arrival).state
unfolding enter
enter_keeps arrival a =
    let s : State = arrival.state in
    let side : Side = arrival.taker.row.key.side in
    let after : Entered = entered arrival.taker arrival.immediate (own_rows side s) (other_rows side s) in
    put_keeps side after.own after.others (record s { orders = orders_after_all after.fills s.orders }) (subst (AreUsed s.used) (sym (trades_keep after.fills s.orders)) a)

new_keeps : (tick event member : ℕ) (id : List ℕ) (terms : Terms) (broken : Option Rule) (s : State) → verdict (New member id terms) (known_of tick (is_used member id s.used) None) ≡ broken → HasNames s → HasNames (on_new tick event member id terms broken s).state
unfolding on_new arrival_of_new accepted_order verdict known_of
new_keeps tick event member id terms (Some rule) s v a = a
new_keeps tick event member id terms None s v a =
    let order : Order = accepted_order tick event member id terms in
    let fresh = first_holds _ _ _ v in
    enter_keeps (arrival_of_new tick event member id terms s)
    (subst (AreUsed (s.used ++ (member, id) ∷ [])) (sym (map-append name_of s.orders (order ∷ []))) (new_name member id s.used (names s.orders) fresh a))

cancel_keeps : (tick member : ℕ) (id orig : List ℕ) (live : Option Live) (broken : Option Rule) (s : State) → verdict (Cancel member id orig) (known_of tick (is_used member id s.used) live) ≡ broken → HasNames s → HasNames (on_cancel member id orig live broken s).state
unfolding on_cancel cancel verdict known_of
cancel_keeps tick member id orig live (Some rule) s v a = a
cancel_keeps tick member id orig None None s v a = a
cancel_keeps tick member id orig (Some live) None s v a = one_more member id s.used (names s.orders) (first_holds _ _ _ v) a

replace_keeps : (tick event member : ℕ) (id orig : List ℕ) (terms : Terms) (live : Option Live) (broken : Option Rule) (s : State)
    → live_named member orig s.orders (resting s) ≡ live → verdict (Replace member id orig terms) (known_of tick (is_used member id s.used) live) ≡ broken → HasNames s → HasNames (on_replace tick event member id orig terms live broken s).state
unfolding on_replace resize arrival_of_replace verdict known_of
replace_keeps tick event member id orig terms live (Some rule) s is v a = a
replace_keeps tick event member id orig terms None None s is v a = a
replace_keeps tick event member id orig terms (Some live) None s is v a =
    let found = live_found member orig s.orders (resting s) live is in
    let owner = live_member member orig s.orders (resting s) live is in
    let change : Order → Order = replaced_order tick id terms in
    let orders : List Order = changed_at change live.number s.orders in
    let named : names orders ≡ put_at (member, id) live.number (names s.orders) =
    map_put name_of change live.number s.orders live.order found.order ∙ ap (λ (m : ℕ). put_at (name_with m id) live.number (names s.orders)) owner in
    let next : AreUsed (s.used ++ (member, id) ∷ []) (names orders) = subst (AreUsed (s.used ++ (member, id) ∷ [])) (sym named) (next_name member id live.number s.used (names s.orders) (first_holds _ _ _ v) a) in
    elim (only_lowers tick terms live) as (λ b. HasNames (cond b (resize tick member id orig terms live s) (enter (arrival_of_replace tick event member id orig terms live s))).state)
    [ true ↦ next | false ↦ enter_keeps (arrival_of_replace tick event member id orig terms live s) next ]

outcome_keeps : (tick event : ℕ) (command : Command) (s : State) → HasNames s → HasNames (outcome_of tick event command s).state
unfolding outcome_of on_status
outcome_keeps tick event (Quote market bid offer) s a = quote_keeps event market (record { bid = bid; offer = offer }) s a
outcome_keeps tick event (New member id terms) s a = new_keeps tick event member id terms _ s refl a
outcome_keeps tick event (Cancel member id orig) s a = cancel_keeps tick member id orig _ _ s refl a
outcome_keeps tick event (Replace member id orig terms) s a = replace_keeps tick event member id orig terms _ _ s refl refl a
outcome_keeps tick event (Request member id side) s a = a

all_keep : (tick : ℕ) (run : Run) (events : List Event) → HasNames run.state → HasNames (fold (step tick) run events).state
unfolding step
all_keep tick run [] a = a
all_keep tick run (event ∷ events) a = all_keep tick (step tick run event) events (outcome_keeps tick event.number event.command run.state a)

named_by : (s : State) → HasNames s → AreNamed s
named_by s a =
    record {
      once = one_place s.used a.once;
      used = λ k order h. all_get (IsUsed s.used) (names s.orders) a.each k (name_of order) (name_at s.orders k order h);
      found = found_by_name s.orders a.differ;
    }

pub orders_are_named : OrdersAreNamed
unfolding runs
orders_are_named markets tick history = named_by _ (all_keep tick _ history (record { once = tt; each = tt; differ = tt }))

-- ---- what reports tell of them

-- the names that notices tell as used up
abbrev names_told : List Notice → List Name
names_told notices = flat_map (λ notice. used_by notice.member notice.kind) notices

-- an event uses up what it tells
abbrev UsesUp : State → Outcome → Type 0
UsesUp s outcome = outcome.state.used ≡ s.used ++ names_told outcome.notices

-- a notice that tells none
abbrev TellsNone : Notice → Type 0
TellsNone notice = used_by notice.member notice.kind ≡ []

none_told : (notices : List Notice) → AllByRecursion TellsNone notices → names_told notices ≡ []
none_told [] a = refl
none_told (notice ∷ notices) a = rw a.0 (none_told notices a.1)

trades_tell_none : (fills : List Fill) (orders : List Order) → AllByRecursion TellsNone (trade_notices fills orders)
unfolding trade_notices trade_notice
trades_tell_none [] orders = tt
trades_tell_none (fill ∷ fills) orders =
    let next : List Order = orders_after fill orders in
    all_append TellsNone (trade_notice fill next fill.taker) _ (all_found TellsNone _ (λ order. refl) (slice_get next fill.taker.order))
    (all_append TellsNone (trade_notice fill next fill.contra) _ (all_found TellsNone _ (λ order. refl) (slice_get next fill.contra.order))
    (trades_tell_none fills next))

left_tells_none : (immediate : Bool) (left : List Priced) (orders : List Order) → AllByRecursion TellsNone (leftover_notices immediate left orders)
unfolding leftover_notices
left_tells_none true left orders = all_flat TellsNone (λ x. leftover_notice x.row.order orders) (λ x. all_found TellsNone _ (λ order. refl) (slice_get orders x.row.order)) left
left_tells_none false left orders = tt

quote_uses : (event market : ℕ) (quote : Best) (s : State) → UsesUp s (on_quote event market quote s)
unfolding on_quote requote
quote_uses event market quote s =
    let next : State = with_quote market quote s in
    elim (same_best (best_of s.markets) (best_of next.markets)) as (λ b. UsesUp s (cond b (with_no_notice next) (requote event next))) [
      | true ↦ sym (append-nil s.used)
      | false ↦ sym (ap (λ (more : List Name). s.used ++ more) (none_told _ (trades_tell_none _ s.orders)) ∙ append-nil s.used)
    ]

same_used : (side : Side) (own others : List Priced) (s : State) → (with_rows side own others s).used ≡ s.used
same_used Buy own others s = refl
same_used Sell own others s = refl

-- an order that enters: its notice tells the name that is used up
enter_uses : (s : State) (name : Name) (arrival : Arrival) → arrival.state.used ≡ s.used ++ name ∷ [] → used_by arrival.notice.member arrival.notice.kind ≡ name ∷ [] → UsesUp s (enter arrival)
unfolding enter
enter_uses s name arrival used first =
    let t : State = arrival.state in
    let side : Side = arrival.taker.row.key.side in
    let after : Entered = entered arrival.taker arrival.immediate (own_rows side t) (other_rows side t) in
    let orders : List Order = orders_after_all after.fills t.orders in
    let rest : List Notice = trade_notices after.fills t.orders ++ leftover_notices arrival.immediate after.left orders in
    let none = none_told rest (all_append TellsNone (trade_notices after.fills t.orders) _ (trades_tell_none after.fills t.orders) (left_tells_none arrival.immediate after.left orders)) in
    let told : names_told (arrival.notice ∷ rest) ≡ name ∷ [] = rw (first, none) refl in
    same_used side after.own after.others (record t { orders = orders }) ∙ (used ∙ sym (ap (λ (more : List Name). s.used ++ more) told))

new_uses : (tick event member : ℕ) (id : List ℕ) (terms : Terms) (broken : Option Rule) (s : State) → UsesUp s (on_new tick event member id terms broken s)
unfolding on_new arrival_of_new accepted_order view_with
new_uses tick event member id terms (Some rule) s = sym (append-nil s.used)
new_uses tick event member id terms None s = enter_uses s (member, id) (arrival_of_new tick event member id terms s) refl refl

cancel_uses : (member : ℕ) (id orig : List ℕ) (live : Option Live) (broken : Option Rule) (s : State) → UsesUp s (on_cancel member id orig live broken s)
unfolding on_cancel cancel
cancel_uses member id orig live (Some rule) s = sym (append-nil s.used)
cancel_uses member id orig None None s = sym (append-nil s.used)
cancel_uses member id orig (Some live) None s = refl

replace_uses : (tick event member : ℕ) (id orig : List ℕ) (terms : Terms) (live : Option Live) (broken : Option Rule) (s : State) → UsesUp s (on_replace tick event member id orig terms live broken s)
unfolding on_replace resize arrival_of_replace view_with
replace_uses tick event member id orig terms live (Some rule) s = sym (append-nil s.used)
replace_uses tick event member id orig terms None None s = sym (append-nil s.used)
replace_uses tick event member id orig terms (Some live) None s =
    let arrival : Arrival = arrival_of_replace tick event member id orig terms live s in
    elim (only_lowers tick terms live) as (λ b. UsesUp s (cond b (resize tick member id orig terms live s) (enter arrival)))
    [ true ↦ refl | false ↦ enter_uses s (member, id) arrival refl refl ]

status_uses : (member : ℕ) (id : List ℕ) (side : ℕ) (s : State) → UsesUp s (on_status member id side s)
unfolding on_status
status_uses member id side s =
    elim (order_named member id s.orders) as (λ o. UsesUp s (with_notice member (option_map_or (λ x. OrderReport (view_now s x) Status) o (Unknown id side)) s))
    [ None ↦ sym (append-nil s.used) | Some found ↦ sym (append-nil s.used) ]

outcome_uses : (tick event : ℕ) (command : Command) (s : State) → UsesUp s (outcome_of tick event command s)
unfolding outcome_of
outcome_uses tick event (Quote market bid offer) s = quote_uses event market (record { bid = bid; offer = offer }) s
outcome_uses tick event (New member id terms) s = new_uses tick event member id terms _ s
outcome_uses tick event (Cancel member id orig) s = cancel_uses member id orig _ _ s
outcome_uses tick event (Replace member id orig terms) s = replace_uses tick event member id orig terms _ _ s
outcome_uses tick event (Request member id side) s = status_uses member id side s

reports_tell : (place : ℕ) (event : Event) (notices : List Notice) → names_used_by (reports_from place event notices) ≡ names_told notices
unfolding reports_from
reports_tell place event [] = refl
reports_tell place event (notice ∷ notices) = ap (λ (more : List Name). used_by notice.member notice.kind ++ more) (reports_tell (place + 1) event notices)

all_told : (tick : ℕ) (run : Run) (events : List Event) → run.state.used ≡ names_used_by run.reports → (fold (step tick) run events).state.used ≡ names_used_by (fold (step tick) run events).reports
unfolding step
all_told tick run [] a = a
all_told tick run (event ∷ events) a =
    let outcome : Outcome = outcome_of tick event.number event.command run.state in
    let uses = outcome_uses tick event.number event.command run.state in
    let told = reports_tell 1 event outcome.notices in
    let all = flat_map-append (λ (report : Report). used_by report.member report.kind) run.reports (reports_from 1 event outcome.notices) in
    all_told tick (step tick run event) events (uses ∙ (ap (λ (old : List Name). old ++ names_told outcome.notices) a ∙ (ap (λ (new : List Name). names_used_by run.reports ++ new) (sym told) ∙ sym all)))

pub used_names_are_told : UsedNamesAreTold
unfolding runs
used_names_are_told markets tick history = all_told tick (record { state = initial markets; reports = [] }) history refl
