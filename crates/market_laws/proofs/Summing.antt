-- Each order's CumQty is the sum of the trades that are told of it.
use Rattle.std.proofs.Common.{◌≡◌, ℕ, zero, suc, ◌+◌, ◌<◌, ◌≤◌, Bool, true, false, cond, List, [], ◌∷◌, ◌++◌, Option, Some, None, refl, ap, sym, ◌∙◌, zero-add, add-zero, subst, arith, inl, inr}
use Rattle.std.specs.Prelude.{◌⊎◌, slice_get, sum_by, map, option_map, option_to_list, ◌==◌}
use Rattle.std.specs.Option.{option_map_or}
use Rattle.std.specs.List.{AllByRecursion}
use Rattle.std.proofs.lemmas.Bool.Decides.{nat_tests}
use Rattle.std.proofs.lemmas.List.Sums.{sum_by-append, sum_by-cons}
use Rattle.venue_words.specs.declared.command.Command.{Command}
use Rattle.venue_words.specs.declared.command.Command.TheVariants.{Quote, New, Cancel, Replace, Status as Request}
use Rattle.venue_words.specs.declared.command.Event.{Event}
use Rattle.venue_words.specs.declared.rule.Rule.{Rule}
use Rattle.venue_words.specs.declared.terms.Terms.{Terms}
use Rattle.venue_words.specs.declared.price.Best.{Best}
use Rattle.venue_words.specs.declared.price.Side.{Side}
use Rattle.venue_words.specs.declared.price.Side.TheVariants.{Buy, Sell}
use Rattle.venue_words.specs.declared.report.Execution.TheVariants.{Traded, Status}
use Rattle.venue_words.specs.declared.report.Kind.{Kind}
use Rattle.venue_words.specs.declared.report.Kind.TheVariants.{Order as OrderReport, Unknown}
use Rattle.venue_words.specs.declared.report.Report.{Report}
use Rattle.venue_words.specs.declared.row.Priced.{Priced}
use Rattle.venue_words.specs.ListLaws.{all_append}
use Rattle.venue_words.specs.Best.{best_of}
use Rattle.venue_words.specs.Retime.{reprice}
use Rattle.eager_meaning.specs.declared.notice.Notice.{Notice}
use Rattle.eager_meaning.specs.declared.order.Order.{Order}
use Rattle.eager_meaning.specs.declared.order.Live.{Live}
use Rattle.eager_meaning.specs.declared.trade.Fill.{Fill}
use Rattle.eager_meaning.specs.declared.trade.Party.{Party}
use Rattle.eager_meaning.specs.State.{State, Outcome, own_rows, other_rows, with_rows, with_no_notice, with_notice}
use Rattle.eager_meaning.specs.Showing.{view_with, view_traded}
use Rattle.eager_meaning.specs.Trades.{order_after, orders_after, orders_after_all, trade_notice, trade_notices}
use Rattle.eager_meaning.specs.Recheck.{Matched, recheck}
use Rattle.eager_meaning.specs.Quoting.{requote, on_quote, with_quote, same_best}
use Rattle.eager_meaning.specs.Entering.{Arrival, Entered, entered, leftover_notice, leftover_notices, enter, accepted_order, arrival_of_new, on_new}
use Rattle.eager_meaning.specs.Changing.{cancel, on_cancel, replaced_order, only_lowers, resize, arrival_of_replace, on_replace}
use Rattle.eager_meaning.specs.Orders.{order_named, changed_at}
use Rattle.eager_meaning.specs.Step.{Run, runs, step, view_now, on_status, outcome_of, reports_from}
use Rattle.market_laws.specs.Equalities.{some_is}
use Rattle.market_laws.specs.Orders.{shares_of_order, shares_told_of, CumIsSumOfTrades}
use Rattle.market_laws.specs.ListLaws.{all_found, all_flat}
use Rattle.market_laws.specs.ChangedLaws.{changed_next}
use Rattle.market_laws.proofs.Numbering.{kept_by_all, numbered_from_none}

-- the CumQty of the orders of a New
abbrev pub cum_of : ℕ → List Order → ℕ
cum_of first orders = sum_by (λ order. cond (order.first == first) order.cum 0) orders

-- the shares that notices tell of the order of a New
abbrev pub told_of : ℕ → List Notice → ℕ
told_of first notices = sum_by (λ notice. shares_of_order first notice.kind) notices

cum_cons : (first : ℕ) (order : Order) (orders : List Order) → cum_of first (order ∷ orders) ≡ cond (order.first == first) order.cum 0 + cum_of first orders
cum_cons first order orders = sum_by-cons (λ (o : Order). cond (o.first == first) o.cum 0) order orders

told_cons : (first : ℕ) (notice : Notice) (notices : List Notice) → told_of first (notice ∷ notices) ≡ shares_of_order first notice.kind + told_of first notices
told_cons first notice notices = sum_by-cons (λ (n : Notice). shares_of_order first n.kind) notice notices

told_append : (first : ℕ) (xs ys : List Notice) → told_of first (xs ++ ys) ≡ told_of first xs + told_of first ys
told_append first xs ys = sum_by-append (λ (n : Notice). shares_of_order first n.kind) xs ys

-- ---- one trade

-- the event of the New of the order with a number
abbrev first_at : List Order → ℕ → Option ℕ
first_at orders k = option_map (λ order. order.first) (slice_get orders k)

-- shares, where the order is that of the New
abbrev shares_for : ℕ → Option ℕ → ℕ → ℕ
shares_for first at shares = option_map_or (λ n. cond (n == first) shares 0) at 0

added : (b : Bool) (cum q rest : ℕ) → cond b (cum + q) 0 + rest ≡ cond b cum 0 + rest + cond b q 0
added true cum q rest = omega arith
added false cum q rest = omega arith

cum_traded : (first : ℕ) (fill : Fill) (k : ℕ) (orders : List Order) → cum_of first (changed_at (order_after fill) k orders) ≡ cum_of first orders + shares_for first (first_at orders k) fill.quantity
unfolding order_after
cum_traded first fill k [] = refl
cum_traded first fill zero (o ∷ os) =
    cum_cons first (order_after fill o) os ∙ (added (o.first == first) o.cum fill.quantity (cum_of first os) ∙ ap (λ n. n + cond (o.first == first) fill.quantity 0) (sym (cum_cons first o os)))
cum_traded first fill (suc k) (o ∷ os) =
    let more = cum_traded first fill k os in
    let before = cum_cons first o os in
    let after = cum_cons first o (changed_at (order_after fill) k os) in
    rw (changed_next (order_after fill) k o os) (omega (arith, more, before, after))

firsts_changed : (f : Order → Order) → ((order : Order) → (f order).first ≡ order.first) → (k : ℕ) (orders : List Order) → map (λ order. order.first) (changed_at f k orders) ≡ map (λ order. order.first) orders
firsts_changed f h k [] = refl
firsts_changed f h zero (o ∷ os) = ap (λ n. n ∷ map (λ order. order.first) os) (h o)
firsts_changed f h (suc k) (o ∷ os) = rw (changed_next f k o os) (ap (λ (ns : List ℕ). o.first ∷ ns) (firsts_changed f h k os))

first_from : (orders : List Order) (k : ℕ) → slice_get (map (λ order. order.first) orders) k ≡ first_at orders k
first_from [] k = refl
first_from (o ∷ os) zero = refl
first_from (o ∷ os) (suc k) = first_from os k

same_first : (fill : Fill) (order : Order) → (order_after fill order).first ≡ order.first
unfolding order_after
same_first fill order = refl

firsts_after : (fill : Fill) (orders : List Order) → map (λ order. order.first) (orders_after fill orders) ≡ map (λ order. order.first) orders
unfolding orders_after
firsts_after fill orders =
    firsts_changed (order_after fill) (same_first fill) fill.contra.order (changed_at (order_after fill) fill.taker.order orders)
    ∙ firsts_changed (order_after fill) (same_first fill) fill.taker.order orders

same_first_at : (orders next : List Order) (k : ℕ) → map (λ order. order.first) next ≡ map (λ order. order.first) orders → first_at next k ≡ first_at orders k
same_first_at orders next k e = sym (first_from next k) ∙ (ap (λ (ns : List ℕ). slice_get ns k) e ∙ first_from orders k)

one_told : (first : ℕ) (fill : Fill) (party : Party) (found : Option Order)
    → told_of first (option_to_list (option_map (λ order. record { member = order.member; kind = OrderReport (view_traded order party) (Traded fill.quantity fill.price) }) found))
    ≡ shares_for first (option_map (λ order. order.first) found) fill.quantity
unfolding view_with
one_told first fill party None = refl
one_told first fill party (Some order) = zero-add _

trade_told : (first : ℕ) (fill : Fill) (orders : List Order) (party : Party) → told_of first (trade_notice fill orders party) ≡ shares_for first (first_at orders party.order) fill.quantity
unfolding trade_notice
trade_told first fill orders party = one_told first fill party (slice_get orders party.order)

cum_fill : (first : ℕ) (fill : Fill) (orders : List Order) → cum_of first (orders_after fill orders) ≡ cum_of first orders + (told_of first (trade_notice fill (orders_after fill orders) fill.taker) + told_of first (trade_notice fill (orders_after fill orders) fill.contra))
unfolding orders_after
cum_fill first fill orders =
    let half : List Order = changed_at (order_after fill) fill.taker.order orders in
    let next : List Order = changed_at (order_after fill) fill.contra.order half in
    let one = cum_traded first fill fill.taker.order orders in
    let two = cum_traded first fill fill.contra.order half in
    let half_same = firsts_changed (order_after fill) (same_first fill) fill.taker.order orders in
    let next_same = firsts_changed (order_after fill) (same_first fill) fill.contra.order half in
    let taker = trade_told first fill next fill.taker ∙ ap (λ (at : Option ℕ). shares_for first at fill.quantity) (same_first_at orders next fill.taker.order (next_same ∙ half_same)) in
    let contra = trade_told first fill next fill.contra ∙ ap (λ (at : Option ℕ). shares_for first at fill.quantity) (same_first_at half next fill.contra.order next_same) in
    omega (arith, one, two, taker, contra)

-- ---- all trades

pub cum_fills : (first : ℕ) (fills : List Fill) (orders : List Order) → cum_of first (orders_after_all fills orders) ≡ cum_of first orders + told_of first (trade_notices fills orders)
unfolding orders_after_all trade_notices
cum_fills first [] orders = omega arith
cum_fills first (fill ∷ fills) orders =
    let next : List Order = orders_after fill orders in
    let taker : List Notice = trade_notice fill next fill.taker in
    let contra : List Notice = trade_notice fill next fill.contra in
    let here = cum_fill first fill orders in
    let more = cum_fills first fills next in
    let all = told_append first taker (contra ++ trade_notices fills next) in
    let later = told_append first contra (trade_notices fills next) in
    omega (arith, here, more, all, later)

pub firsts_after_all : (fills : List Fill) (orders : List Order) → map (λ order. order.first) (orders_after_all fills orders) ≡ map (λ order. order.first) orders
unfolding orders_after_all
firsts_after_all [] orders = refl
firsts_after_all (fill ∷ fills) orders = firsts_after_all fills (orders_after fill orders) ∙ firsts_after fill orders

none_told : (first : ℕ) (notices : List Notice) → AllByRecursion (λ notice. shares_of_order first notice.kind ≡ 0) notices → told_of first notices ≡ 0
none_told first [] a = refl
none_told first (notice ∷ notices) a =
    let here = a.0 in
    let more = none_told first notices a.1 in
    let all = told_cons first notice notices in
    omega arith

left_not_told : (first : ℕ) (immediate : Bool) (left : List Priced) (orders : List Order) → told_of first (leftover_notices immediate left orders) ≡ 0
unfolding leftover_notices
left_not_told first true left orders =
    none_told first _ (all_flat (λ notice. shares_of_order first notice.kind ≡ 0) (λ x. leftover_notice x.row.order orders)
    (λ x. all_found (λ notice. shares_of_order first notice.kind ≡ 0) _ (λ order. refl) (slice_get orders x.row.order)) left)
left_not_told first false left orders = refl

-- ---- events

-- an outcome adds to each order's CumQty what it tells of it; it has the orders that there were, or one more
pub record AddsTold (event : ℕ) (s : State) (outcome : Outcome) : Type 0 where
  pub sums : (first : ℕ) → cum_of first outcome.state.orders ≡ cum_of first s.orders + told_of first outcome.notices
  pub firsts : (map (λ order. order.first) outcome.state.orders ≡ map (λ order. order.first) s.orders) ⊎ (map (λ order. order.first) outcome.state.orders ≡ map (λ order. order.first) s.orders ++ event ∷ [])

same_orders : (event member : ℕ) (kind : Kind) (s next : State) → ((first : ℕ) → shares_of_order first kind ≡ 0) → next.orders ≡ s.orders → AddsTold event s (with_notice member kind next)
same_orders event member kind s next none e =
    record {
      sums = λ first. (let all = told_cons first (record { member = member; kind = kind }) [] in let zero_told = none first in let same = ap (cum_of first) e in omega (arith, all, zero_told, same));
      firsts = inl (ap (map (λ order. order.first)) e);
    }

requote_adds : (event : ℕ) (s : State) → AddsTold event s (requote event s)
unfolding requote
requote_adds event s =
    let best : Best = best_of s.markets in
    let matched : Matched = recheck (reprice event best s.buys) (reprice event best s.sells) in
    record { sums = λ first. cum_fills first matched.fills s.orders; firsts = inl (firsts_after_all matched.fills s.orders) }

quote_adds : (event market : ℕ) (quote : Best) (s : State) → AddsTold event s (on_quote event market quote s)
unfolding on_quote
quote_adds event market quote s =
    let next : State = with_quote market quote s in
    elim (same_best (best_of s.markets) (best_of next.markets)) as (λ b. AddsTold event s (cond b (with_no_notice next) (requote event next))) [
      | true ↦ record { sums = λ first. sym (add-zero (cum_of first s.orders)); firsts = inl refl }
      | false ↦ let adds = requote_adds event next in record { sums = adds.sums; firsts = adds.firsts }
    ]

orders_put : (side : Side) (own others : List Priced) (s : State) → (with_rows side own others s).orders ≡ s.orders
orders_put Buy own others s = refl
orders_put Sell own others s = refl

enter_adds : (event : ℕ) (s : State) (arrival : Arrival) → ((first : ℕ) → shares_of_order first arrival.notice.kind ≡ 0) → ((first : ℕ) → cum_of first arrival.state.orders ≡ cum_of first s.orders)
    → (map (λ order. order.first) arrival.state.orders ≡ map (λ order. order.first) s.orders) ⊎ (map (λ order. order.first) arrival.state.orders ≡ map (λ order. order.first) s.orders ++ event ∷ [])
    → AddsTold event s (enter arrival)
unfolding enter
enter_adds event s arrival none same firsts =
    let t : State = arrival.state in
    let side : Side = arrival.taker.row.key.side in
    let after : Entered = entered arrival.taker arrival.immediate (own_rows side t) (other_rows side t) in
    let orders : List Order = orders_after_all after.fills t.orders in
    let trades : List Notice = trade_notices after.fills t.orders in
    let rest : List Notice = leftover_notices arrival.immediate after.left orders in
    let put : (with_rows side after.own after.others (record t { orders = orders })).orders ≡ orders = orders_put side after.own after.others (record t { orders = orders }) in
    let traded = firsts_after_all after.fills t.orders in
    record {
      sums = λ first. (
          let at = ap (cum_of first) put in
          let sums = cum_fills first after.fills t.orders in
          let all = told_cons first arrival.notice (trades ++ rest) in
          let parts = told_append first trades rest in
          omega (arith, at, sums, all, parts, none first, same first, left_not_told first arrival.immediate after.left orders));
      firsts = elim firsts [ inl e ↦ inl (ap (map (λ order. order.first)) put ∙ (traded ∙ e)) | inr e ↦ inr (ap (map (λ order. order.first)) put ∙ (traded ∙ e)) ];
    }

cum_append : (first : ℕ) (orders : List Order) (order : Order) → order.cum ≡ 0 → cum_of first (orders ++ order ∷ []) ≡ cum_of first orders
cum_append first orders order e =
    let all = sum_by-append (λ (o : Order). cond (o.first == first) o.cum 0) orders (order ∷ []) in
    let one = cum_cons first order [] in
    let zero_cum : cond (order.first == first) order.cum 0 ≡ 0 = elim (order.first == first) as (λ b. cond b order.cum 0 ≡ 0) [ true ↦ e | false ↦ refl ] in
    omega (arith, all, one, zero_cum)

firsts_append : (orders : List Order) (order : Order) → map (λ o. o.first) (orders ++ order ∷ []) ≡ map (λ o. o.first) orders ++ order.first ∷ []
firsts_append [] order = refl
firsts_append (o ∷ os) order = ap (λ (ns : List ℕ). o.first ∷ ns) (firsts_append os order)

new_adds : (tick event member : ℕ) (id : List ℕ) (terms : Terms) (broken : Option Rule) (s : State) → AddsTold event s (on_new tick event member id terms broken s)
unfolding on_new arrival_of_new accepted_order
new_adds tick event member id terms (Some rule) s = same_orders event member _ s s (λ first. refl) refl
new_adds tick event member id terms None s =
    let order : Order = accepted_order tick event member id terms in
    enter_adds event s (arrival_of_new tick event member id terms s) (λ first. refl) (λ first. cum_append first s.orders order refl) (inr (firsts_append s.orders order))

cum_changed : (first : ℕ) (f : Order → Order) → ((order : Order) → ((f order).first ≡ order.first) × ((f order).cum ≡ order.cum)) → (k : ℕ) (orders : List Order) → cum_of first (changed_at f k orders) ≡ cum_of first orders
cum_changed first f h k [] = refl
cum_changed first f h zero (o ∷ os) =
    cum_cons first (f o) os ∙ (rw ((h o).0, (h o).1) refl ∙ sym (cum_cons first o os))
cum_changed first f h (suc k) (o ∷ os) =
    let more = cum_changed first f h k os in
    let before = cum_cons first o os in
    let after = cum_cons first o (changed_at f k os) in
    rw (changed_next f k o os) (omega (arith, more, before, after))

cancel_adds : (event member : ℕ) (id orig : List ℕ) (live : Option Live) (broken : Option Rule) (s : State) → AddsTold event s (on_cancel member id orig live broken s)
unfolding on_cancel cancel
cancel_adds event member id orig live (Some rule) s = same_orders event member _ s s (λ first. refl) refl
cancel_adds event member id orig None None s = record { sums = λ first. sym (add-zero (cum_of first s.orders)); firsts = inl refl }
cancel_adds event member id orig (Some live) None s = same_orders event member _ s _ (λ first. refl) refl

replace_adds : (tick event member : ℕ) (id orig : List ℕ) (terms : Terms) (live : Option Live) (broken : Option Rule) (s : State) → AddsTold event s (on_replace tick event member id orig terms live broken s)
unfolding on_replace resize arrival_of_replace
replace_adds tick event member id orig terms live (Some rule) s = same_orders event member _ s s (λ first. refl) refl
replace_adds tick event member id orig terms None None s = record { sums = λ first. sym (add-zero (cum_of first s.orders)); firsts = inl refl }
replace_adds tick event member id orig terms (Some live) None s =
    let change : Order → Order = replaced_order tick id terms in
    let firsts = firsts_changed change (λ order. refl) live.number s.orders in
    let sums = λ (first : ℕ). cum_changed first change (λ order. (refl, refl)) live.number s.orders in
    elim (only_lowers tick terms live) as (λ b. AddsTold event s (cond b (resize tick member id orig terms live s) (enter (arrival_of_replace tick event member id orig terms live s)))) [
      | true ↦ record { sums = λ first. sums first ∙ sym (add-zero (cum_of first s.orders)); firsts = inl firsts }
      | false ↦ enter_adds event s (arrival_of_replace tick event member id orig terms live s) (λ first. refl) sums (inl firsts)
    ]

status_adds : (event member : ℕ) (id : List ℕ) (side : ℕ) (s : State) → AddsTold event s (on_status member id side s)
unfolding on_status
status_adds event member id side s =
    elim (order_named member id s.orders) as (λ found. AddsTold event s (with_notice member (option_map_or (λ x. OrderReport (view_now s x) Status) found (Unknown id side)) s)) [
      | None ↦ same_orders event member _ s s (λ first. refl) refl
      | Some x ↦ same_orders event member _ s s (λ first. refl) refl
    ]

pub outcome_adds : (tick event : ℕ) (command : Command) (s : State) → AddsTold event s (outcome_of tick event command s)
unfolding outcome_of
outcome_adds tick event (Quote market bid offer) s = quote_adds event market (record { bid = bid; offer = offer }) s
outcome_adds tick event (New member id terms) s = new_adds tick event member id terms _ s
outcome_adds tick event (Cancel member id orig) s = cancel_adds event member id orig _ _ s
outcome_adds tick event (Replace member id orig terms) s = replace_adds tick event member id orig terms _ _ s
outcome_adds tick event (Request member id side) s = status_adds event member id side s

-- ---- histories

-- numbers that rise, and are at most n
abbrev pub AreRising : ℕ → List ℕ → Type 0
AreRising n [] = Unit {0}
AreRising n (x ∷ xs) = (x ≤ n) × AllByRecursion (λ y. x < y) xs × AreRising n xs

rising_more : (n : ℕ) (xs : List ℕ) → AreRising n xs → AreRising (n + 1) xs
rising_more n [] a = tt
rising_more n (x ∷ xs) a = (omega (arith, a.0), a.1, rising_more n xs a.2)

rising_next : (n : ℕ) (xs : List ℕ) → AreRising n xs → AreRising (n + 1) (xs ++ (n + 1) ∷ [])
rising_next n [] a = (omega arith, tt, tt)
rising_next n (x ∷ xs) a =
    (omega (arith, a.0), all_append (λ y. x < y) xs ((n + 1) ∷ []) a.1 (omega (arith, a.0), tt), rising_next n xs a.2)

-- a run in which each order's CumQty is what the reports tell of it
pub record IsSummed (n : ℕ) (run : Run) : Type 0 where
  pub sums : (first : ℕ) → cum_of first run.state.orders ≡ shares_told_of first run.reports
  pub firsts : AreRising n (map (λ order. order.first) run.state.orders)

reports_told : (first place : ℕ) (event : Event) (notices : List Notice) → shares_told_of first (reports_from place event notices) ≡ told_of first notices
unfolding reports_from
reports_told first place event [] = refl
reports_told first place event (notice ∷ notices) =
    let more = reports_told first (place + 1) event notices in
    let left = sum_by-cons (λ (r : Report). shares_of_order first r.kind) (record { event = event.number; place = place; member = notice.member; moment = event.moment; kind = notice.kind }) (reports_from (place + 1) event notices) in
    left ∙ (ap (λ n. shares_of_order first notice.kind + n) more ∙ sym (told_cons first notice notices))

step_summed : (tick n : ℕ) (run : Run) (event : Event) → event.number ≡ n + 1 → IsSummed n run → IsSummed (n + 1) (step tick run event)
unfolding step
step_summed tick n run event number is =
    let outcome : Outcome = outcome_of tick event.number event.command run.state in
    let adds = outcome_adds tick event.number event.command run.state in
    record {
      sums = λ first. (
          let all = sum_by-append (λ (r : Report). shares_of_order first r.kind) run.reports (reports_from 1 event outcome.notices) in
          omega (arith, adds.sums first, is.sums first, all, reports_told first 1 event outcome.notices));
      firsts = elim adds.firsts [
        | inl e ↦ subst (λ (ns : List ℕ). AreRising (n + 1) ns) (sym e) (rising_more n _ is.firsts)
        | inr e ↦ subst (λ (ns : List ℕ). AreRising (n + 1) ns) (sym (e ∙ ap (λ k. map (λ (order : Order). order.first) run.state.orders ++ k ∷ []) number)) (rising_next n _ is.firsts)
      ];
    }

none_of : (first : ℕ) (orders : List Order) → AllByRecursion (λ y. first < y) (map (λ order. order.first) orders) → cum_of first orders ≡ 0
none_of first [] a = refl
none_of first (o ∷ os) a =
    let more = none_of first os a.1 in
    let all = cum_cons first o os in
    let here : cond (o.first == first) o.cum 0 ≡ 0 = differs o.first first o.cum a.0 in
    omega (arith, more, all, here)
  where
    differs : (k first cum : ℕ) → first < k → cond (k == first) cum 0 ≡ 0
    differs k first cum h = grind (arith, nat_tests)

same_cond : (k cum : ℕ) → cond (k == k) cum 0 ≡ cum
same_cond k cum = grind (arith, nat_tests)

other_cond : (k first cum : ℕ) → k < first → cond (k == first) cum 0 ≡ 0
other_cond k first cum h = grind (arith, nat_tests)

all_at : (P : ℕ → Type 0) (orders : List Order) (k : ℕ) (order : Order) → AllByRecursion P (map (λ o. o.first) orders) → slice_get orders k ≡ Some order → P order.first
all_at P [] k order a h = cc
all_at P (o ∷ os) zero order a h = subst (λ (x : Order). P x.first) (some_is _ _ h) a.0
all_at P (o ∷ os) (suc k) order a h = all_at P os k order a.1 h

cum_at : (n : ℕ) (orders : List Order) (k : ℕ) (order : Order) → AreRising n (map (λ o. o.first) orders) → slice_get orders k ≡ Some order → order.cum ≡ cum_of order.first orders
cum_at n [] k order a h = cc
cum_at n (o ∷ os) zero order a h =
    let here : o.cum ≡ cum_of o.first (o ∷ os) =
    (let all = cum_cons o.first o os in let rest = none_of o.first os a.1 in let own = same_cond o.first o.cum in omega (arith, all, rest, own)) in
    subst (λ (x : Order). x.cum ≡ cum_of x.first (o ∷ os)) (some_is _ _ h) here
cum_at n (o ∷ os) (suc k) order a h =
    let more = cum_at n os k order a.2 h in
    let all = cum_cons order.first o os in
    let later : o.first < order.first = all_at (λ y. o.first < y) os k order a.1 h in
    omega (arith, more, all, other_cond o.first order.first o.cum later)

pub cum_is_sum : CumIsSumOfTrades
unfolding runs
cum_is_sum markets tick history numbered k order h =
    let is = kept_by_all (step tick) IsSummed (step_summed tick) 0 _ history (numbered_from_none history numbered) (record { sums = λ first. refl; firsts = tt }) in
    cum_at _ _ k order is.firsts h ∙ is.sums order.first
