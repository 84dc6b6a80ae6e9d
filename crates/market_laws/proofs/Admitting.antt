-- Orders that enter, leave or change keep rows and orders in agreement.
use Rattle.std.proofs.Common.{◌≡◌, ℕ, ◌+◌, ◌≤◌, Bool, true, false, cond, not, List, [], ◌∷◌, ◌++◌, length, Option, Some, None, refl, ap, sym, ◌∙◌, subst, arith}
use Rattle.std.specs.Prelude.{filter, nat_lt, ◌==◌}
use Rattle.std.specs.List.{AllByRecursion}
use Rattle.std.proofs.lemmas.List.{append-nil, length-append}
use Rattle.std.proofs.lemmas.Option.{slice_get_within}
use Rattle.venue_words.specs.declared.rule.Rule.{Rule}
use Rattle.venue_words.specs.declared.terms.Terms.{Terms}
use Rattle.venue_words.specs.declared.price.Best.{Best}
use Rattle.venue_words.specs.declared.price.Side.{Side}
use Rattle.venue_words.specs.declared.price.Side.TheVariants.{Buy, Sell}
use Rattle.venue_words.specs.declared.row.Row.{Row}
use Rattle.venue_words.specs.declared.row.Priced.{Priced}
use Rattle.venue_words.specs.ListLaws.{all_weaken, all_both, all_append}
use Rattle.venue_words.specs.Best.{best_of}
use Rattle.venue_words.specs.Retime.{reprice}
use Rattle.eager_meaning.specs.declared.order.Order.{Order}
use Rattle.eager_meaning.specs.declared.order.Live.{Live}
use Rattle.eager_meaning.specs.declared.trade.Fill.{Fill}
use Rattle.eager_meaning.specs.declared.trade.Take.{Take}
use Rattle.eager_meaning.specs.State.{State, Outcome, own_rows, other_rows, with_rows, with_no_notice}
use Rattle.eager_meaning.specs.Matching.{takes_of, fills_of, row_after, unfilled, rows_after}
use Rattle.eager_meaning.specs.Quoting.{requote, on_quote, with_quote, same_best}
use Rattle.eager_meaning.specs.Recheck.{recheck}
use Rattle.eager_meaning.specs.Terms.{row_of}
use Rattle.eager_meaning.specs.Trades.{orders_after_all}
use Rattle.eager_meaning.specs.Walk.{total_of}
use Rattle.eager_meaning.specs.Entering.{Arrival, Entered, entered, enter, accepted_order, arrival_of_new, on_new}
use Rattle.eager_meaning.specs.Changing.{cancel, on_cancel}
use Rattle.market_laws.specs.Pairwise.{pairwise_filter, pairwise_append, across_filter}
use Rattle.market_laws.specs.Sound.{AreDifferent, IsNew, AllDiffer, IsHeld, IsLiveRow, IsSoundOrder, AreSound}
use Rattle.market_laws.specs.ListLaws.{all_filter}
use Rattle.market_laws.proofs.Differing.{different_back, takes_within}
use Rattle.market_laws.proofs.Backing.{length_after_all, held_after, still_held, live_unfilled, taker_trades, others_rest}
use Rattle.market_laws.proofs.Naming.{get_kept, get_last, each_more}
use Rattle.market_laws.specs.QuantityLaws.{quantity_most}
use Rattle.market_laws.proofs.Sweeping.{sound_after, walk_fits, others_live_after, differ_after, new_after, new_from, turned, recheck_sound, reprice_sound}

-- ---- one walk of an order that is not in the book

with_left : (P : List Priced → Type 0) (own : List Priced) (x : Priced) → P own → P (own ++ x ∷ []) → P (own ++ unfilled (x ∷ []))
with_left P own x a b =
    elim (nat_lt 0 x.row.leaves) as (λ c. P (own ++ cond c (x ∷ []) [])) [ true ↦ b | false ↦ subst P (sym (append-nil own)) a ]

pub entered_sound : (n : ℕ) (orders : List Order) (taker : Priced) (immediate : Bool) (own others : List Priced) → IsHeld n orders taker.row → IsNew taker.row own → IsNew taker.row others → AreSound n orders own others
    → AreSound n (orders_after_all (entered taker immediate own others).fills orders) (entered taker immediate own others).own (entered taker immediate own others).others
unfolding entered
entered_sound n orders taker immediate own others h mine fresh a =
    let takes : List Take = takes_of taker others in
    let fills : List Fill = fills_of taker takes in
    let next : List Order = orders_after_all fills orders in
    let after : Priced = row_after (total_of takes) taker in
    let both = all_both (λ x. IsLiveRow n orders x.row) (λ x. AreDifferent taker.row x.row) (λ x. IsLiveRow n orders x.row × AreDifferent taker.row x.row) (λ x l d. (l, d)) own a.own_live mine in
    let rest = all_both (λ x. IsLiveRow n orders x.row × AreDifferent taker.row x.row) (λ x. IsNew x.row others) (λ x. IsLiveRow n next x.row)
    (λ x p d. record { held = still_held n orders fills x.row p.0.held (others_rest n orders taker others h a.others_live a.others_differ fresh x.row p.1 d); left = p.0.left }) own both a.differ in
    let trades = taker_trades n orders taker others h a.others_live a.others_differ fresh in
    let held = held_after n orders fills (total_of takes) taker h trades (takes_within taker others).0 in
    let left_live = live_unfilled n next (after ∷ []) (held, tt) in
    let left : List Priced = unfilled (after ∷ []) in
    let after_fresh : IsNew after.row (rows_after takes others) = new_from (total_of takes) taker (rows_after takes others) (new_after taker.row takes others fresh) in
    let across = all_weaken (λ x. IsNew x.row others) (λ x. IsNew x.row (rows_after takes others)) (λ x d. new_after x.row takes others d) own a.differ in
    let Q : List Priced → Type 0 = λ rows. AreSound n next rows (rows_after takes others) in
    let others_live = others_live_after n orders taker others h a.others_live a.others_differ fresh in
    let others_differ = differ_after takes others a.others_differ in
    let sound = sound_after orders fills (walk_fits n orders taker others h a.others_live a.others_differ fresh a.sound) in
    let bare : Q own = record { own_live = rest; others_live = others_live; own_differ = a.own_differ; others_differ = others_differ; differ = across; sound = sound } in
    let joined : Q (own ++ left) = record {
      own_live = all_append (λ x. IsLiveRow n next x.row) own left rest left_live;
      others_live = others_live;
      own_differ = with_left AllDiffer own after a.own_differ (pairwise_append AreDifferent different_back own after a.own_differ (new_from (total_of takes) taker own mine));
      others_differ = others_differ;
      differ = with_left (λ rows. AllByRecursion (λ x. IsNew x.row (rows_after takes others)) rows) own after across (all_append (λ x. IsNew x.row (rows_after takes others)) own (after ∷ []) across (after_fresh, tt));
      sound = sound;
    } in
    elim immediate as (λ b. Q (cond b own (own ++ left))) [ true ↦ bare | false ↦ joined ]

-- ---- states

abbrev pub RowsAgree : ℕ → State → Type 0
RowsAgree n s = AreSound n s.orders s.buys s.sells

pub own_first : (n : ℕ) (side : Side) (s : State) → RowsAgree n s → AreSound n s.orders (own_rows side s) (other_rows side s)
own_first n Buy s a = a
own_first n Sell s a = turned n s.orders s.buys s.sells a

put_back : (n : ℕ) (side : Side) (orders : List Order) (own others : List Priced) (s : State) → AreSound n orders own others → RowsAgree n (with_rows side own others (record s { orders = orders }))
put_back n Buy orders own others s a = a
put_back n Sell orders own others s a = turned n orders own others a

orders_put : (side : Side) (own others : List Priced) (s : State) → (with_rows side own others s).orders ≡ s.orders
orders_put Buy own others s = refl
orders_put Sell own others s = refl

pub new_to_own : (side : Side) (row : Row) (s : State) → IsNew row s.buys → IsNew row s.sells → IsNew row (own_rows side s)
new_to_own Buy row s b a = b
new_to_own Sell row s b a = a

pub new_to_others : (side : Side) (row : Row) (s : State) → IsNew row s.buys → IsNew row s.sells → IsNew row (other_rows side s)
new_to_others Buy row s b a = a
new_to_others Sell row s b a = b

-- an order that is about to enter is new to the book, and agrees with it
pub record IsSoundArrival (n : ℕ) (arrival : Arrival) : Type 0 where
  pub held : IsHeld n arrival.state.orders arrival.taker.row
  pub buys : IsNew arrival.taker.row arrival.state.buys
  pub sells : IsNew arrival.taker.row arrival.state.sells
  pub rows : RowsAgree n arrival.state

pub enter_agrees : (n : ℕ) (arrival : Arrival) → IsSoundArrival n arrival → RowsAgree n (enter arrival).state
unfolding enter
enter_agrees n arrival a =
    let s : State = arrival.state in
    let side : Side = arrival.taker.row.key.side in
    let after : Entered = entered arrival.taker arrival.immediate (own_rows side s) (other_rows side s) in
    put_back n side (orders_after_all after.fills s.orders) after.own after.others s
    (entered_sound n s.orders arrival.taker arrival.immediate (own_rows side s) (other_rows side s) a.held (new_to_own side arrival.taker.row s a.buys a.sells) (new_to_others side arrival.taker.row s a.buys a.sells) (own_first n side s a.rows))

pub enter_counts : (arrival : Arrival) → length (enter arrival).state.orders ≡ length arrival.state.orders
unfolding enter
enter_counts arrival =
    let s : State = arrival.state in
    let side : Side = arrival.taker.row.key.side in
    let after : Entered = entered arrival.taker arrival.immediate (own_rows side s) (other_rows side s) in
    ap length (orders_put side after.own after.others (record s { orders = orders_after_all after.fills s.orders })) ∙ length_after_all after.fills s.orders

-- ---- one more event

pub held_later : (n : ℕ) (orders : List Order) (row : Row) → IsHeld n orders row → IsHeld (n + 1) orders row
held_later n orders row h = record { order = h.order; is = h.is; member = h.member; quantity = h.quantity; traded = h.traded; entered = (let e = h.entered in omega arith) }

pub later : (n : ℕ) (s : State) → RowsAgree n s → RowsAgree (n + 1) s
later n s a =
    let live : (x : Priced) → IsLiveRow n s.orders x.row → IsLiveRow (n + 1) s.orders x.row = λ x l. record { held = held_later n s.orders x.row l.held; left = l.left } in
    record {
      own_live = all_weaken (λ x. IsLiveRow n s.orders x.row) (λ x. IsLiveRow (n + 1) s.orders x.row) live s.buys a.own_live;
      others_live = all_weaken (λ x. IsLiveRow n s.orders x.row) (λ x. IsLiveRow (n + 1) s.orders x.row) live s.sells a.others_live;
      own_differ = a.own_differ;
      others_differ = a.others_differ;
      differ = a.differ;
      sound = a.sound;
    }

-- ---- a New

pub more_orders : (n : ℕ) (orders : List Order) (order : Order) (row : Row) → IsLiveRow n orders row → IsLiveRow n (orders ++ order ∷ []) row
more_orders n orders order row l =
    let h = l.held in
    record { held = record { order = h.order; is = get_kept orders order row.order h.order h.is; member = h.member; quantity = h.quantity; traded = h.traded; entered = h.entered }; left = l.left }

-- a row of the next event and of the next order is new
pub next_is_new : (n : ℕ) (orders : List Order) (row : Row) (rows : List Priced) → row.entry ≡ n + 1 → row.order ≡ length orders → AllByRecursion (λ x. IsLiveRow n orders x.row) rows → IsNew row rows
next_is_new n orders row rows e o a =
    all_weaken (λ x. IsLiveRow n orders x.row) (λ x. AreDifferent row x.row)
    (λ x l. record {
      entry = λ same. (let most = l.held.entered in omega arith);
      order = λ same. (let within = slice_get_within orders x.row.order l.held.order l.held.is in omega arith);
    }) rows a

pub new_arrival : (tick n member : ℕ) (id : List ℕ) (terms : Terms) (s : State) → RowsAgree n s → IsSoundArrival (n + 1) (arrival_of_new tick (n + 1) member id terms s)
unfolding arrival_of_new accepted_order row_of
new_arrival tick n member id terms s a =
    let order : Order = accepted_order tick (n + 1) member id terms in
    let orders : List Order = s.orders ++ order ∷ [] in
    let row : Row = (arrival_of_new tick (n + 1) member id terms s).taker.row in
    let b = later n s a in
    let more = λ (x : Priced) (l : IsLiveRow (n + 1) s.orders x.row). more_orders (n + 1) s.orders order x.row l in
    record {
      held = record { order = order; is = get_last s.orders order; member = refl; quantity = omega arith; traded = refl; entered = omega arith };
      buys = next_is_new n s.orders row s.buys refl refl a.own_live;
      sells = next_is_new n s.orders row s.sells refl refl a.others_live;
      rows = record {
        own_live = all_weaken (λ x. IsLiveRow (n + 1) s.orders x.row) (λ x. IsLiveRow (n + 1) orders x.row) more s.buys b.own_live;
        others_live = all_weaken (λ x. IsLiveRow (n + 1) s.orders x.row) (λ x. IsLiveRow (n + 1) orders x.row) more s.sells b.others_live;
        own_differ = b.own_differ;
        others_differ = b.others_differ;
        differ = b.differ;
        sound = each_more IsSoundOrder s.orders order b.sound (record { traded = omega arith; quantity = quantity_most terms });
      };
    }

pub new_agrees : (tick n member : ℕ) (id : List ℕ) (terms : Terms) (broken : Option Rule) (s : State) → RowsAgree n s → RowsAgree (n + 1) (on_new tick (n + 1) member id terms broken s).state
unfolding on_new
new_agrees tick n member id terms (Some rule) s a = later n s a
new_agrees tick n member id terms None s a = enter_agrees (n + 1) _ (new_arrival tick n member id terms s a)

pub new_counts : (tick event member : ℕ) (id : List ℕ) (terms : Terms) (broken : Option Rule) (s : State) → length (on_new tick event member id terms broken s).state.orders ≤ length s.orders + 1
unfolding on_new arrival_of_new
new_counts tick event member id terms (Some rule) s = omega arith
new_counts tick event member id terms None s =
    let e = enter_counts (arrival_of_new tick event member id terms s) in
    let f = length-append s.orders (accepted_order tick event member id terms ∷ []) in
    omega (arith, e, f)

-- ---- a quote

pub quote_agrees : (n event market : ℕ) (quote : Best) (s : State) → RowsAgree n s → RowsAgree (n + 1) (on_quote event market quote s).state
unfolding on_quote requote
quote_agrees n event market quote s a =
    let next : State = with_quote market quote s in
    let best : Best = best_of next.markets in
    let b = later n s a in
    let P : Outcome → Type 0 = λ o. RowsAgree (n + 1) o.state in
    elim (same_best (best_of s.markets) best) as (λ c. P (cond c (with_no_notice next) (requote event next))) [
      | true ↦ b
      | false ↦ recheck_sound (n + 1) s.orders (reprice event best s.buys) (reprice event best s.sells) (reprice_sound (n + 1) event best s.orders s.buys s.sells b)
    ]

pub quote_counts : (event market : ℕ) (quote : Best) (s : State) → length (on_quote event market quote s).state.orders ≡ length s.orders
unfolding on_quote requote
quote_counts event market quote s =
    let next : State = with_quote market quote s in
    let best : Best = best_of next.markets in
    let P : Outcome → Type 0 = λ o. length o.state.orders ≡ length s.orders in
    elim (same_best (best_of s.markets) best) as (λ c. P (cond c (with_no_notice next) (requote event next)))
    [ true ↦ refl | false ↦ length_after_all (recheck (reprice event best s.buys) (reprice event best s.sells)).fills s.orders ]

-- ---- a Cancel

pub filtered : (n : ℕ) (orders : List Order) (p : Priced → Bool) (own others : List Priced) → AreSound n orders own others → AreSound n orders (filter p own) (filter p others)
filtered n orders p own others a =
    record {
      own_live = all_filter (λ x. IsLiveRow n orders x.row) p own a.own_live;
      others_live = all_filter (λ x. IsLiveRow n orders x.row) p others a.others_live;
      own_differ = pairwise_filter AreDifferent p own a.own_differ;
      others_differ = pairwise_filter AreDifferent p others a.others_differ;
      differ = across_filter AreDifferent p p own others a.differ;
      sound = a.sound;
    }

pub cancel_agrees : (n member : ℕ) (id orig : List ℕ) (live : Option Live) (broken : Option Rule) (s : State) → RowsAgree n s → RowsAgree (n + 1) (on_cancel member id orig live broken s).state
unfolding on_cancel cancel
cancel_agrees n member id orig live (Some rule) s a = later n s a
cancel_agrees n member id orig None None s a = later n s a
cancel_agrees n member id orig (Some live) None s a = filtered (n + 1) s.orders (λ x. not (x.row.entry == live.row.row.entry)) s.buys s.sells (later n s a)

pub cancel_counts : (member : ℕ) (id orig : List ℕ) (live : Option Live) (broken : Option Rule) (s : State) → length (on_cancel member id orig live broken s).state.orders ≡ length s.orders
unfolding on_cancel cancel
cancel_counts member id orig live (Some rule) s = refl
cancel_counts member id orig None None s = refl
cancel_counts member id orig (Some live) None s = refl
