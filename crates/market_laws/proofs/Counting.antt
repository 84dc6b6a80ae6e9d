-- There are no more rows than orders.
use Rattle.std.proofs.Common.{◌≡◌, ℕ, ◌+◌, ◌-◌, ◌≤◌, Bool, true, false, cond, not, List, [], ◌∷◌, ◌++◌, length, Option, Some, None, refl, ap, arith}
use Rattle.std.specs.Prelude.{map, filter, find, nat_lt, ◌==◌}
use Rattle.std.proofs.lemmas.Bool.{eq-eqb}
use Rattle.std.proofs.lemmas.List.{length-append}
use Rattle.std.proofs.lemmas.List.Elements.{filter-append}
use Rattle.venue_words.specs.declared.command.Command.{Command}
use Rattle.venue_words.specs.declared.command.Command.TheVariants.{Quote, New, Cancel, Replace, Status as Request}
use Rattle.venue_words.specs.declared.rule.Rule.{Rule}
use Rattle.venue_words.specs.declared.terms.Terms.{Terms}
use Rattle.venue_words.specs.declared.price.Best.{Best}
use Rattle.venue_words.specs.declared.price.Side.{Side}
use Rattle.venue_words.specs.declared.price.Side.TheVariants.{Buy, Sell}
use Rattle.venue_words.specs.declared.row.Priced.{Priced}
use Rattle.venue_words.specs.Best.{best_of}
use Rattle.venue_words.specs.Priority.{in_priority}
use Rattle.venue_words.specs.Retime.{retime, reprice}
use Rattle.eager_meaning.specs.declared.order.Live.{Live}
use Rattle.eager_meaning.specs.declared.trade.Take.{Take}
use Rattle.eager_meaning.specs.State.{State, Outcome, own_rows, other_rows, with_rows, resting, with_no_notice}
use Rattle.eager_meaning.specs.Walk.{total_of}
use Rattle.eager_meaning.specs.Matching.{takes_of, row_after, unfilled, rows_after}
use Rattle.eager_meaning.specs.Orders.{live_named, is_used, known_of}
use Rattle.eager_meaning.specs.Quoting.{requote, on_quote, with_quote, same_best}
use Rattle.eager_meaning.specs.Recheck.{Sides, meet, crosses_any, sweep, recheck}
use Rattle.eager_meaning.specs.Showing.{row_of_order}
use Rattle.eager_meaning.specs.Trades.{orders_after_all}
use Rattle.eager_meaning.specs.Terms.{quantity_of}
use Rattle.eager_meaning.specs.Verdict.{verdict}
use Rattle.eager_meaning.specs.Entering.{Arrival, Entered, entered, enter, accepted_order, arrival_of_new, on_new}
use Rattle.eager_meaning.specs.Changing.{without, cancel, on_cancel, only_lowers, with_leaves, resize, arrival_of_replace, on_replace}
use Rattle.eager_meaning.specs.Step.{on_status, outcome_of}
use Rattle.market_laws.specs.Equalities.{some_is}
use Rattle.market_laws.specs.Fewer.{no_more_rows}
use Rattle.market_laws.proofs.Admitting.{enter_counts, quote_counts}
use Rattle.market_laws.specs.LiveLaws.{IsLive, live_found}
use Rattle.market_laws.proofs.Replacing.{replace_counts}

pub length_map : (f : Priced → Priced) (rows : List Priced) → length (map f rows) ≡ length rows
length_map f [] = refl
length_map f (x ∷ xs) = let more = length_map f xs in omega arith

pub length_filter : (p : Priced → Bool) (rows : List Priced) → length (filter p rows) ≤ length rows
length_filter p [] = omega arith
length_filter p (x ∷ xs) =
    let more = length_filter p xs in
    elim (p x) as (λ b. length (cond b (x ∷ filter p xs) (filter p xs)) ≤ length (x ∷ xs)) [ true ↦ omega arith | false ↦ omega arith ]

-- the rows of both sides
abbrev both : Sides → ℕ
both sides = length sides.own + length sides.others

sweep_fewer : (takers : List Priced) (sides : Sides) → both (sweep takers sides) ≤ both sides
unfolding sweep meet
sweep_fewer [] sides = omega arith
sweep_fewer (taker ∷ takers) sides =
    let takes : List Take = takes_of taker sides.others in
    let mine : List Take = record { contra = taker; shares = total_of takes } ∷ [] in
    let more = sweep_fewer takers (meet taker sides) in
    let own = no_more_rows mine sides.own in
    let others = no_more_rows takes sides.others in
    elim (crosses_any taker sides.others) as (λ b. both (cond b (sweep takers (meet taker sides)) sides) ≤ both sides) [ true ↦ omega arith | false ↦ omega arith ]

recheck_fewer : (buys sells : List Priced) → length (recheck buys sells).buys + length (recheck buys sells).sells ≤ length buys + length sells
unfolding recheck
recheck_fewer buys sells =
    let half : Sides = sweep (in_priority buys) (record { own = buys; others = sells; fills = [] }) in
    let first = sweep_fewer (in_priority buys) (record { own = buys; others = sells; fills = [] }) in
    let second = sweep_fewer (in_priority half.others) (record { own = half.others; others = half.own; fills = half.fills }) in
    omega (arith, first, second)

pub reprice_length : (event : ℕ) (best : Best) (rows : List Priced) → length (reprice event best rows) ≡ length rows
unfolding reprice
reprice_length event best rows = length_map (retime event best) rows

-- how many rows rest
abbrev pub rows_in : State → ℕ
rows_in s = length s.buys + length s.sells

entered_fewer : (taker : Priced) (immediate : Bool) (own others : List Priced) → length (entered taker immediate own others).own + length (entered taker immediate own others).others ≤ length own + length others + 1
unfolding entered
entered_fewer taker immediate own others =
    let after : Priced = row_after (total_of (takes_of taker others)) taker in
    let left : List Priced = unfilled (after ∷ []) in
    let one = length_filter (λ x. nat_lt 0 x.row.leaves) (after ∷ []) in
    let joined = length-append own left in
    let fewer = no_more_rows (takes_of taker others) others in
    elim immediate as (λ b. length (cond b own (own ++ left)) + length (rows_after (takes_of taker others) others) ≤ length own + length others + 1)
    [ true ↦ omega (arith, fewer) | false ↦ omega (arith, one, joined, fewer) ]

pub rows_put : (side : Side) (own others : List Priced) (s : State) → rows_in (with_rows side own others s) ≡ length own + length others
rows_put Buy own others s = refl
rows_put Sell own others s = omega arith

pub rows_of_sides : (side : Side) (s : State) → length (own_rows side s) + length (other_rows side s) ≡ rows_in s
rows_of_sides Buy s = refl
rows_of_sides Sell s = omega arith

enter_fewer : (arrival : Arrival) → rows_in (enter arrival).state ≤ rows_in arrival.state + 1
unfolding enter
enter_fewer arrival =
    let s : State = arrival.state in
    let side : Side = arrival.taker.row.key.side in
    let after : Entered = entered arrival.taker arrival.immediate (own_rows side s) (other_rows side s) in
    let put = rows_put side after.own after.others (record s { orders = orders_after_all after.fills s.orders }) in
    let fewer = entered_fewer arrival.taker arrival.immediate (own_rows side s) (other_rows side s) in
    let all = rows_of_sides side s in
    omega (arith, put, fewer, all)

-- ---- events: no more rows come in than orders

abbrev Fewer : State → State → Type 0
Fewer s next = rows_in next + length s.orders ≤ rows_in s + length next.orders

rows_of_quote : (event market : ℕ) (quote : Best) (s : State) → rows_in (on_quote event market quote s).state ≤ rows_in s
unfolding on_quote requote
rows_of_quote event market quote s =
    let next : State = with_quote market quote s in
    let best : Best = best_of next.markets in
    let P : Outcome → Type 0 = λ o. rows_in o.state ≤ rows_in s in
    let fewer = recheck_fewer (reprice event best s.buys) (reprice event best s.sells) in
    let b = reprice_length event best s.buys in
    let a = reprice_length event best s.sells in
    elim (same_best (best_of s.markets) best) as (λ c. P (cond c (with_no_notice next) (requote event next))) [ true ↦ omega arith | false ↦ omega (arith, fewer, b, a) ]

quote_fewer : (event market : ℕ) (quote : Best) (s : State) → Fewer s (on_quote event market quote s).state
quote_fewer event market quote s =
    let rows = rows_of_quote event market quote s in
    let counts = quote_counts event market quote s in
    omega (arith, rows, counts)

new_fewer : (tick event member : ℕ) (id : List ℕ) (terms : Terms) (broken : Option Rule) (s : State) → Fewer s (on_new tick event member id terms broken s).state
unfolding on_new arrival_of_new
new_fewer tick event member id terms (Some rule) s = omega arith
new_fewer tick event member id terms None s =
    let arrival : Arrival = arrival_of_new tick event member id terms s in
    let rows = enter_fewer arrival in
    let e = enter_counts arrival in
    let f = length-append s.orders (accepted_order tick event member id terms ∷ []) in
    omega (arith, rows, e, f)

cancel_fewer : (member : ℕ) (id orig : List ℕ) (live : Option Live) (broken : Option Rule) (s : State) → Fewer s (on_cancel member id orig live broken s).state
unfolding on_cancel cancel
cancel_fewer member id orig live (Some rule) s = omega arith
cancel_fewer member id orig None None s = omega arith
cancel_fewer member id orig (Some live) None s =
    let b = length_filter (λ x. not (x.row.entry == live.row.row.entry)) s.buys in
    let a = length_filter (λ x. not (x.row.entry == live.row.row.entry)) s.sells in
    omega (arith, b, a)

-- a row that is found is taken out
one_out : (p : Priced → Bool) (rows : List Priced) (x : Priced) → find p rows ≡ Some x → length (without x.row.entry rows) + 1 ≤ length rows
one_out p [] x h = cc
one_out p (y ∷ ys) x h =
    (elim (p y) as (λ b. cond b (Some y) (find p ys) ≡ Some x → length (without x.row.entry (y ∷ ys)) + 1 ≤ length (y ∷ ys)) [
      | true ↦ λ k.
          let same : (y.row.entry == x.row.entry) ≡ true = eq-eqb _ _ (ap (λ (z : Priced). z.row.entry) (some_is _ _ k)) in
          let less = length_filter (λ z. not (z.row.entry == x.row.entry)) ys in
          rw same (omega (arith, less))
      | false ↦ λ k.
          let more = one_out p ys x k in
          elim (not (y.row.entry == x.row.entry)) as (λ b. length (cond b (y ∷ without x.row.entry ys) (without x.row.entry ys)) + 1 ≤ length (y ∷ ys)) [ true ↦ omega arith | false ↦ omega arith ]
    ]) h

live_out : (s : State) (live : Live) → IsLive s.orders (resting s) live → length (without live.row.row.entry s.buys) + length (without live.row.row.entry s.sells) + 1 ≤ rows_in s
unfolding row_of_order
live_out s live is =
    let out = one_out (λ x. x.row.order == live.number) (resting s) live.row is.row in
    let parts = ap length (filter-append (λ (x : Priced). not (x.row.entry == live.row.row.entry)) s.buys s.sells) in
    let joined = length-append (without live.row.row.entry s.buys) (without live.row.row.entry s.sells) in
    let all = length-append s.buys s.sells in
    omega (arith, out, parts, joined, all)

replace_fewer : (tick event member : ℕ) (id orig : List ℕ) (terms : Terms) (live : Option Live) (broken : Option Rule) (s : State) → live_named member orig s.orders (resting s) ≡ live → rows_in (on_replace tick event member id orig terms live broken s).state ≤ rows_in s
unfolding on_replace resize arrival_of_replace
replace_fewer tick event member id orig terms live (Some rule) s is = omega arith
replace_fewer tick event member id orig terms None None s is = omega arith
replace_fewer tick event member id orig terms (Some live) None s is =
    let arrival : Arrival = arrival_of_replace tick event member id orig terms live s in
    let found = live_found member orig s.orders (resting s) live is in
    let out = live_out s live found in
    let rows = enter_fewer arrival in
    let b = λ (leaves : ℕ). length_map (with_leaves live.row.row.entry leaves) s.buys in
    let a = λ (leaves : ℕ). length_map (with_leaves live.row.row.entry leaves) s.sells in
    let P : Outcome → Type 0 = λ o. rows_in o.state ≤ rows_in s in
    elim (only_lowers tick terms live) as (λ c. P (cond c (resize tick member id orig terms live s) (enter arrival)))
    [ true ↦ omega (arith, b (quantity_of terms - live.order.cum), a (quantity_of terms - live.order.cum)) | false ↦ omega (arith, out, rows) ]

pub outcome_fewer : (tick event : ℕ) (command : Command) (s : State) → Fewer s (outcome_of tick event command s).state
unfolding outcome_of on_status
outcome_fewer tick event (Quote market bid offer) s = quote_fewer event market (record { bid = bid; offer = offer }) s
outcome_fewer tick event (New member id terms) s = new_fewer tick event member id terms _ s
outcome_fewer tick event (Cancel member id orig) s = cancel_fewer member id orig _ _ s
outcome_fewer tick event (Replace member id orig terms) s =
    let live = live_named member orig s.orders (resting s) in
    let broken = verdict (Replace member id orig terms) (known_of tick (is_used member id s.used) live) in
    let rows = replace_fewer tick event member id orig terms live broken s refl in
    let counts = replace_counts tick event member id orig terms live broken s in
    omega (arith, rows, counts)
outcome_fewer tick event (Request member id side) s = omega arith
