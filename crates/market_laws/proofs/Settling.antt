-- Each event keeps the rows in place, and its trades are fair.
use Rattle.std.proofs.Common.{◌≡◌, ℕ, ◌*◌, ◌≤◌, Bool, true, false, cond, ◌&&◌, List, [], ◌∷◌, ◌++◌, Option, Some, None, refl, ap, sym, ◌∙◌, subst, arith}
use Rattle.std.specs.Prelude.{option_map, ◌==◌, nat_lt}
use Rattle.std.specs.Option.{option_map_or}
use Rattle.std.specs.List.{AllByRecursion}
use Rattle.std.proofs.lemmas.List.Sums.{sum_by-append, sum_by-cons}
use Rattle.venue_words.specs.declared.command.Command.{Command}
use Rattle.venue_words.specs.declared.command.Command.TheVariants.{Quote, New, Cancel, Replace, Status as Request}
use Rattle.venue_words.specs.declared.rule.Rule.{Rule}
use Rattle.venue_words.specs.declared.terms.Terms.{Terms}
use Rattle.venue_words.specs.declared.price.TheConstants.{PRICE_END}
use Rattle.venue_words.specs.declared.price.Best.{Best}
use Rattle.venue_words.specs.declared.price.Side.{Side}
use Rattle.venue_words.specs.declared.price.Side.TheVariants.{Buy, Sell}
use Rattle.venue_words.specs.declared.report.Execution.TheVariants.{Status}
use Rattle.venue_words.specs.declared.report.Kind.{Kind}
use Rattle.venue_words.specs.declared.report.Kind.TheVariants.{Order as OrderReport, Unknown}
use Rattle.venue_words.specs.declared.row.Priced.{Priced}
use Rattle.venue_words.specs.ListLaws.{all_append}
use Rattle.venue_words.specs.Best.{best_of}
use Rattle.venue_words.specs.Peg.{value_under}
use Rattle.venue_words.specs.Retime.{reprice}
use Rattle.eager_meaning.specs.declared.notice.Notice.{Notice}
use Rattle.eager_meaning.specs.declared.order.Order.{Order}
use Rattle.eager_meaning.specs.declared.order.Live.{Live}
use Rattle.eager_meaning.specs.declared.trade.Fill.{Fill}
use Rattle.eager_meaning.specs.State.{State, Outcome, own_rows, other_rows, with_rows, resting, with_no_notice, with_notice}
use Rattle.eager_meaning.specs.Matching.{takes_of, row_after, unfilled}
use Rattle.eager_meaning.specs.Walk.{total_of}
use Rattle.eager_meaning.specs.Recheck.{Matched, recheck}
use Rattle.eager_meaning.specs.Trades.{trade_notices, orders_after_all}
use Rattle.eager_meaning.specs.Quoting.{requote, on_quote, with_quote, same_best}
use Rattle.eager_meaning.specs.Entering.{Arrival, Entered, entered, leftover_notices, enter, accepted_order, arrival_of_new, on_new}
use Rattle.eager_meaning.specs.Changing.{cancel, on_cancel, replaced_order, only_lowers, with_leaves, resize, arrival_of_replace, on_replace}
use Rattle.eager_meaning.specs.Orders.{live_named, is_used, known_of, order_named, changed_at}
use Rattle.eager_meaning.specs.Terms.{row_of}
use Rattle.eager_meaning.specs.Verdict.{verdict}
use Rattle.eager_meaning.specs.Step.{view_now, on_status, outcome_of}
use Rattle.market_laws.specs.Placed.{side_at, opposite, IsPlaced, AreWorthAtMost, IsPlacedBook}
use Rattle.market_laws.specs.Trading.{shares_on, IsPricedWithin}
use Rattle.market_laws.specs.ListLaws.{all_filter, all_map}
use Rattle.market_laws.proofs.Siding.{side_changed, sides_after_all, side_kept, side_of_last}
use Rattle.market_laws.proofs.Meeting.{IsFairFill, stays_placed, fills_fair, left_placed, recheck_fair, same_option, reprice_places, same_sides}
use Rattle.market_laws.proofs.Telling.{shares_told, IsNoTrade, none_told, none_priced, left_no_trade, trades_even, trades_priced}
use Rattle.market_laws.proofs.Valuing.{each_kept, worth_after_all, worth_next}
use Rattle.market_laws.specs.LiveLaws.{live_found}
use Rattle.market_laws.proofs.Living.{same_side, key_side}

-- an outcome that keeps the rows in place, and tells as many shares bought as sold, at prices within the quote
pub record IsFair (outcome : Outcome) : Type 0 where
  pub state : IsPlacedBook outcome.state
  pub even : shares_told Buy outcome.notices ≡ shares_told Sell outcome.notices
  pub priced : AllByRecursion (λ notice. IsPricedWithin (best_of outcome.state.markets) notice.kind) outcome.notices

-- one notice of no trade
one_fair : (member : ℕ) (kind : Kind) (s : State) → IsNoTrade kind → IsPlacedBook s → IsFair (with_notice member kind s)
one_fair member kind s plain rows =
    record {
      state = rows;
      even = none_told Buy (record { member = member; kind = kind } ∷ []) (plain, tt) ∙ sym (none_told Sell (record { member = member; kind = kind } ∷ []) (plain, tt));
      priced = none_priced (best_of s.markets) (record { member = member; kind = kind } ∷ []) (plain, tt);
    }

-- ---- quotes

after_trades : (best : Best) (orders : List Order) (fills : List Fill) (side : Side) (rows : List Priced) → AllByRecursion (IsPlaced best orders side) rows → AllByRecursion (IsPlaced best (orders_after_all fills orders) side) rows
after_trades best orders fills side rows a = same_sides best orders (orders_after_all fills orders) side (λ j s h. sides_after_all fills orders j ∙ h) rows a

requote_fair : (event : ℕ) (old : Best) (s : State) → AllByRecursion (IsPlaced old s.orders Buy) s.buys → AllByRecursion (IsPlaced old s.orders Sell) s.sells → AreWorthAtMost s.orders → IsFair (requote event s)
unfolding requote
requote_fair event old s b a w =
    let best : Best = best_of s.markets in
    let fair = recheck_fair best s.orders (reprice event best s.buys) (reprice event best s.sells) (reprice_places event old best s.orders Buy s.buys b) (reprice_places event old best s.orders Sell s.sells a) in
    let matched : Matched = recheck (reprice event best s.buys) (reprice event best s.sells) in
    record {
      state = record { buys = after_trades best s.orders matched.fills Buy matched.buys fair.buys; sells = after_trades best s.orders matched.fills Sell matched.sells fair.sells; worth = worth_after_all best s.orders matched.fills fair.fills s.orders w };
      even = trades_even best s.orders matched.fills fair.fills s.orders (λ j. refl);
      priced = trades_priced best s.orders matched.fills fair.fills s.orders;
    }

both_true : (a b : Bool) → (a && b) ≡ true → (a ≡ true) × (b ≡ true)
both_true true b h = (refl, h)
both_true false b h = cc

-- a quote by its parts
abbrev quote_with : Option ℕ → Option ℕ → Best
quote_with bid offer = record { bid = bid; offer = offer }

best_is : (a b c d : Option ℕ) → a ≡ c → b ≡ d → quote_with a b ≡ quote_with c d
best_is a b c d h k = rw (h, k) refl

same_quote : (x y : Best) → same_best x y ≡ true → y ≡ x
same_quote x y h =
    let parts = both_true _ _ h in
    let bid = same_option x.bid y.bid parts.0 in
    let offer = same_option x.offer y.offer parts.1 in
    best_is y.bid y.offer x.bid x.offer bid offer

quote_fair : (event market : ℕ) (quote : Best) (s : State) → IsPlacedBook s → IsFair (on_quote event market quote s)
unfolding on_quote
quote_fair event market quote s rows =
    let next : State = with_quote market quote s in
    (elim (same_best (best_of s.markets) (best_of next.markets)) as (λ b. same_best (best_of s.markets) (best_of next.markets) ≡ b → IsFair (cond b (with_no_notice next) (requote event next))) [
      | true ↦ λ e.
          let same : best_of s.markets ≡ best_of next.markets = sym (same_quote _ _ e) in
          record {
            state = record {
              buys = subst (λ (best : Best). AllByRecursion (IsPlaced best s.orders Buy) s.buys) same rows.buys;
              sells = subst (λ (best : Best). AllByRecursion (IsPlaced best s.orders Sell) s.sells) same rows.sells;
              worth = rows.worth;
            };
            even = refl;
            priced = tt;
          }
      | false ↦ λ e. requote_fair event (best_of s.markets) next rows.buys rows.sells rows.worth
    ]) refl

-- ---- orders that enter

pub own_placed : (side : Side) (s : State) → IsPlacedBook s → AllByRecursion (IsPlaced (best_of s.markets) s.orders side) (own_rows side s)
own_placed Buy s rows = rows.buys
own_placed Sell s rows = rows.sells

pub other_placed : (side : Side) (s : State) → IsPlacedBook s → AllByRecursion (IsPlaced (best_of s.markets) s.orders (opposite side)) (other_rows side s)
other_placed Buy s rows = rows.sells
other_placed Sell s rows = rows.buys

put_back : (side : Side) (own others : List Priced) (s : State) → AllByRecursion (IsPlaced (best_of s.markets) s.orders side) own → AllByRecursion (IsPlaced (best_of s.markets) s.orders (opposite side)) others → AreWorthAtMost s.orders → IsPlacedBook (with_rows side own others s)
put_back Buy own others s a b w = record { buys = a; sells = b; worth = w }
put_back Sell own others s a b w = record { buys = b; sells = a; worth = w }

same_markets : (side : Side) (own others : List Priced) (s : State) → (with_rows side own others s).markets ≡ s.markets
same_markets Buy own others s = refl
same_markets Sell own others s = refl

pub record IsFairlyEntered (best : Best) (orders : List Order) (side : Side) (e : Entered) : Type 0 where
  pub own : AllByRecursion (IsPlaced best orders side) e.own
  pub others : AllByRecursion (IsPlaced best orders (opposite side)) e.others
  pub fills : AllByRecursion (IsFairFill best orders) e.fills

pub entered_fair : (best : Best) (orders : List Order) (side : Side) (taker : Priced) (immediate : Bool) (own others : List Priced) → IsPlaced best orders side taker → AllByRecursion (IsPlaced best orders side) own → AllByRecursion (IsPlaced best orders (opposite side)) others → IsFairlyEntered best orders side (entered taker immediate own others)
unfolding entered
entered_fair best orders side taker immediate own others p a b =
    let left : List Priced = unfilled (row_after (total_of (takes_of taker others)) taker ∷ []) in
    let left_all : AllByRecursion (IsPlaced best orders side) left =
    all_filter (IsPlaced best orders side) (λ x. nat_lt 0 x.row.leaves) (row_after (total_of (takes_of taker others)) taker ∷ []) (stays_placed best orders side _ taker p, tt) in
    record {
      own = elim immediate as (λ c. AllByRecursion (IsPlaced best orders side) (cond c own (own ++ left))) [ true ↦ a | false ↦ all_append (IsPlaced best orders side) own left a left_all ];
      others = left_placed best orders (opposite side) (takes_of taker others) others b;
      fills = fills_fair best orders side taker others p b;
    }

-- an order that is about to enter is placed as the rows of the book are
pub record IsPlacedArrival (arrival : Arrival) : Type 0 where
  pub taker : IsPlaced (best_of arrival.state.markets) arrival.state.orders arrival.taker.row.key.side arrival.taker
  pub rows : IsPlacedBook arrival.state

enter_fair : (arrival : Arrival) → IsPlacedArrival arrival → IsNoTrade arrival.notice.kind → IsFair (enter arrival)
unfolding enter
enter_fair arrival a plain =
    let p = a.taker in
    let rows = a.rows in
    let s : State = arrival.state in
    let best : Best = best_of s.markets in
    let side : Side = arrival.taker.row.key.side in
    let after : Entered = entered arrival.taker arrival.immediate (own_rows side s) (other_rows side s) in
    let fair = entered_fair best s.orders side arrival.taker arrival.immediate (own_rows side s) (other_rows side s) p (own_placed side s rows) (other_placed side s rows) in
    let orders : List Order = orders_after_all after.fills s.orders in
    let trades : List Notice = trade_notices after.fills s.orders in
    let rest : List Notice = leftover_notices arrival.immediate after.left orders in
    let none = left_no_trade arrival.immediate after.left orders in
    let told = λ (z : Side). sum_by-cons (λ (n : Notice). shares_on z n.kind) arrival.notice (trades ++ rest) in
    let parts = λ (z : Side). sum_by-append (λ (n : Notice). shares_on z n.kind) trades rest in
    let even = trades_even best s.orders after.fills fair.fills s.orders (λ j. refl) in
    let priced : AllByRecursion (λ notice. IsPricedWithin best notice.kind) (arrival.notice ∷ (trades ++ rest)) =
    (plain.any best, all_append (λ notice. IsPricedWithin best notice.kind) trades rest (trades_priced best s.orders after.fills fair.fills s.orders) (none_priced best rest none)) in
    record {
      state = put_back side after.own after.others (record s { orders = orders }) (after_trades best s.orders after.fills side after.own fair.own) (after_trades best s.orders after.fills (opposite side) after.others fair.others) (worth_after_all best s.orders after.fills fair.fills s.orders rows.worth);
      even = omega (arith, told Buy, told Sell, parts Buy, parts Sell, none_told Buy rest none, none_told Sell rest none, plain.none Buy, plain.none Sell, even);
      priced = subst (λ (m : List Best). AllByRecursion (λ (notice : Notice). IsPricedWithin (best_of m) notice.kind) (arrival.notice ∷ (trades ++ rest))) (sym (same_markets side after.own after.others (record s { orders = orders }))) priced;
    }

pub new_placed : (tick event member : ℕ) (id : List ℕ) (terms : Terms) (s : State) → IsPlacedBook s → IsPlacedArrival (arrival_of_new tick event member id terms s)
unfolding arrival_of_new accepted_order row_of
new_placed tick event member id terms s rows =
    let order : Order = accepted_order tick event member id terms in
    let orders : List Order = s.orders ++ order ∷ [] in
    let kept = λ (j : ℕ) (side : Side) (h : side_at s.orders j ≡ Some side). side_kept s.orders order j side h in
    record {
      taker = record {
        on = record { key = refl; order = side_of_last s.orders order ∙ ap Some (sym (key_side tick terms)) };
        priced = refl;
      };
      rows = record {
        buys = same_sides (best_of s.markets) s.orders orders Buy kept s.buys rows.buys;
        sells = same_sides (best_of s.markets) s.orders orders Sell kept s.sells rows.sells;
        worth = worth_next s.orders order refl rows.worth;
      };
    }

new_fair : (tick event member : ℕ) (id : List ℕ) (terms : Terms) (broken : Option Rule) (s : State) → IsPlacedBook s → IsFair (on_new tick event member id terms broken s)
unfolding on_new arrival_of_new
new_fair tick event member id terms (Some rule) s rows = one_fair member _ s (record { none = λ side. refl; any = λ best. tt }) rows
new_fair tick event member id terms None s rows =
    enter_fair (arrival_of_new tick event member id terms s) (new_placed tick event member id terms s rows) (record { none = λ side. refl; any = λ best. tt })

-- ---- cancels and replaces

cancel_fair : (member : ℕ) (id orig : List ℕ) (live : Option Live) (broken : Option Rule) (s : State) → IsPlacedBook s → IsFair (on_cancel member id orig live broken s)
unfolding on_cancel cancel
cancel_fair member id orig live (Some rule) s rows = one_fair member _ s (record { none = λ side. refl; any = λ best. tt }) rows
cancel_fair member id orig None None s rows = record { state = rows; even = refl; priced = tt }
cancel_fair member id orig (Some live) None s rows =
    one_fair member _ _ (record { none = λ side. refl; any = λ best. tt })
    (record {
      buys = all_filter (IsPlaced (best_of s.markets) s.orders Buy) _ s.buys rows.buys;
      sells = all_filter (IsPlaced (best_of s.markets) s.orders Sell) _ s.sells rows.sells;
      worth = rows.worth;
    })

leaves_placed : (best : Best) (orders : List Order) (side : Side) (entry leaves : ℕ) (x : Priced) → IsPlaced best orders side x → IsPlaced best orders side (with_leaves entry leaves x)
unfolding value_under
leaves_placed best orders side entry leaves x p =
    elim (x.row.entry == entry) as (λ b. IsPlaced best orders side (cond b (record x { row = record x.row { leaves = leaves } }) x))
    [ true ↦ record { on = record { key = p.on.key; order = p.on.order }; priced = p.priced } | false ↦ p ]

-- the rows after a live order was replaced, before it enters anew or its row is lowered
replaced_book : (tick : ℕ) (id : List ℕ) (terms : Terms) (live : Live) (s : State) → IsPlacedBook s → IsPlacedBook (record s { orders = changed_at (replaced_order tick id terms) live.number s.orders })
replaced_book tick id terms live s rows =
    let change : Order → Order = replaced_order tick id terms in
    let orders : List Order = changed_at change live.number s.orders in
    let kept = λ (j : ℕ) (side : Side) (h : side_at s.orders j ≡ Some side). side_changed change (λ order. refl) live.number s.orders j ∙ h in
    record {
      buys = same_sides (best_of s.markets) s.orders orders Buy kept s.buys rows.buys;
      sells = same_sides (best_of s.markets) s.orders orders Sell kept s.sells rows.sells;
      worth = each_kept (λ order. order.notional ≤ PRICE_END * order.cum) change (λ x w. w) live.number s.orders rows.worth;
    }

pub replace_placed : (tick event member : ℕ) (id orig : List ℕ) (terms : Terms) (live : Live) (used : Bool) (s : State)
    → live_named member orig s.orders (resting s) ≡ Some live → verdict (Replace member id orig terms) (known_of tick used (Some live)) ≡ None
    → IsPlacedBook s → IsPlacedArrival (arrival_of_replace tick event member id orig terms live s)
unfolding arrival_of_replace row_of
replace_placed tick event member id orig terms live used s is v rows =
    let found = live_found member orig s.orders (resting s) live is in
    let change : Order → Order = replaced_order tick id terms in
    let orders : List Order = changed_at change live.number s.orders in
    let book = replaced_book tick id terms live s rows in
    let at : side_at s.orders live.number ≡ Some live.order.side = ap (λ (x : Option Order). option_map (λ (order : Order). order.side) x) found.order in
    record {
      taker = record {
        on = record { key = refl; order = side_changed change (λ order. refl) live.number s.orders live.number ∙ at ∙ ap Some (sym (key_side tick terms ∙ same_side member id orig terms tick used live v)) };
        priced = refl;
      };
      rows = record {
        buys = all_filter (IsPlaced (best_of s.markets) orders Buy) _ s.buys book.buys;
        sells = all_filter (IsPlaced (best_of s.markets) orders Sell) _ s.sells book.sells;
        worth = book.worth;
      };
    }

replace_fair : (tick event member : ℕ) (id orig : List ℕ) (terms : Terms) (live : Option Live) (used : Bool) (broken : Option Rule) (s : State)
    → live_named member orig s.orders (resting s) ≡ live → verdict (Replace member id orig terms) (known_of tick used live) ≡ broken
    → IsPlacedBook s → IsFair (on_replace tick event member id orig terms live broken s)
unfolding on_replace resize arrival_of_replace
replace_fair tick event member id orig terms live used (Some rule) s is v rows = one_fair member _ s (record { none = λ side. refl; any = λ best. tt }) rows
replace_fair tick event member id orig terms None used None s is v rows = record { state = rows; even = refl; priced = tt }
replace_fair tick event member id orig terms (Some live) used None s is v rows =
    let orders : List Order = changed_at (replaced_order tick id terms) live.number s.orders in
    let book = replaced_book tick id terms live s rows in
    elim (only_lowers tick terms live) as (λ b. IsFair (cond b (resize tick member id orig terms live s) (enter (arrival_of_replace tick event member id orig terms live s)))) [
      | true ↦
          one_fair member _ _ (record { none = λ side. refl; any = λ best. tt })
          (record {
            buys = all_map (IsPlaced (best_of s.markets) orders Buy) (IsPlaced (best_of s.markets) orders Buy) _ (leaves_placed (best_of s.markets) orders Buy _ _) s.buys book.buys;
            sells = all_map (IsPlaced (best_of s.markets) orders Sell) (IsPlaced (best_of s.markets) orders Sell) _ (leaves_placed (best_of s.markets) orders Sell _ _) s.sells book.sells;
            worth = book.worth;
          })
      | false ↦ enter_fair (arrival_of_replace tick event member id orig terms live s) (replace_placed tick event member id orig terms live used s is v rows) (record { none = λ side. refl; any = λ best. tt })
    ]

-- ---- all events

status_fair : (member : ℕ) (id : List ℕ) (side : ℕ) (s : State) → IsPlacedBook s → IsFair (on_status member id side s)
unfolding on_status
status_fair member id side s rows =
    elim (order_named member id s.orders) as (λ found. IsFair (with_notice member (option_map_or (λ x. OrderReport (view_now s x) Status) found (Unknown id side)) s)) [
      | None ↦ one_fair member _ s (record { none = λ z. refl; any = λ best. tt }) rows
      | Some x ↦ one_fair member _ s (record { none = λ z. refl; any = λ best. tt }) rows
    ]

pub outcome_fair : (tick event : ℕ) (command : Command) (s : State) → IsPlacedBook s → IsFair (outcome_of tick event command s)
unfolding outcome_of
outcome_fair tick event (Quote market bid offer) s rows = quote_fair event market (record { bid = bid; offer = offer }) s rows
outcome_fair tick event (New member id terms) s rows = new_fair tick event member id terms _ s rows
outcome_fair tick event (Cancel member id orig) s rows = cancel_fair member id orig _ _ s rows
outcome_fair tick event (Replace member id orig terms) s rows = replace_fair tick event member id orig terms _ (is_used member id s.used) _ s refl refl rows
outcome_fair tick event (Request member id side) s rows = status_fair member id side s rows
