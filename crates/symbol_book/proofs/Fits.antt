-- What a command needs of the state that it finds holds after every history.
use Rattle.std.proofs.Common.{◌≡◌, ℕ, zero, suc, ◌+◌, ◌<◌, ◌≤◌, Bool, true, false, ◌&&◌, List, [], ◌∷◌, length, Some, refl, sym, subst, arith}
use Rattle.std.specs.Prelude.{nat_lt, slice_get, slice_index_or, slice_set}
use Rattle.std.proofs.lemmas.Bool.Decides.{nat_tests}
use Rattle.venue_words.specs.declared.command.Command.{Command}
use Rattle.venue_words.specs.declared.command.Command.TheVariants.{Quote, New, Cancel, Replace, Status as Request}
use Rattle.venue_words.specs.declared.command.Event.{Event}
use Rattle.venue_words.specs.declared.terms.Terms.{Terms}
use Rattle.venue_words.specs.declared.price.Side.{Side}
use Rattle.venue_words.specs.declared.price.Side.TheVariants.{Buy, Sell}
use Rattle.venue_words.specs.declared.row.Priced.{Priced}
use Rattle.venue_words.specs.Best.{best_of}
use Rattle.venue_words.specs.Conditions.{fits_limits}
use Rattle.eager_meaning.specs.declared.order.Order.{Order}
use Rattle.eager_meaning.specs.declared.order.Live.{Live}
use Rattle.eager_meaning.specs.declared.trade.Fill.{Fill}
use Rattle.eager_meaning.specs.Changing.{arrival_of_replace}
use Rattle.eager_meaning.specs.Entering.{entered, arrival_of_new}
use Rattle.eager_meaning.specs.State.{State, own_rows, other_rows}
use Rattle.eager_meaning.specs.Step.{IsNumbered, runs}
use Rattle.market_laws.specs.Fitting.{TradeFits, FillsFit, QuoteTradesFit, NewTradesFit, ReplaceTradesFit, arrival_fills}
use Rattle.market_laws.specs.Ids.{short_within_limits}
use Rattle.market_laws.specs.QuantityLaws.{quantity_above}
use Rattle.match_core.specs.BothSides.{own_of, others_of}
use Rattle.venue_words.specs.declared.limits.TheConstants.{MAX_ID_BYTES}
use Rattle.symbol_book.specs.Commands.{id_bytes, takes_command}
use Rattle.symbol_book.specs.Fitting.{CanWork, NewFits, ReplaceFits}
use Rattle.symbol_book.specs.Orders.{HasLeft, HaveLeft}
use Rattle.symbol_book.proofs.LiveRows.{at_within}

index_is : (orders : List Order) (k : ℕ) (order d : Order) → slice_get orders k ≡ Some order → slice_index_or orders k d ≡ order
index_is [] k order d e = cc
index_is (o ∷ os) zero order d e = some_order _ _ e where
  some_order : (x y : Order) → Some x ≡ Some y → x ≡ y
  some_order x y f = cc
index_is (o ∷ os) (suc k) order d e = index_is os k order d e

has_left : (fill : Fill) (number : ℕ) (orders : List Order) → TradeFits fill number orders → HasLeft fill number orders
has_left fill number orders fits =
    record { here = at_within orders number fits.order fits.is; left = λ d. rw (index_is orders number fits.order d fits.is) fits.most }

pub have_left : (fills : List Fill) (orders : List Order) → FillsFit fills orders → HaveLeft fills orders
have_left [] orders fits = tt
have_left (fill ∷ fills) orders fits = (has_left fill _ _ fits.0, has_left fill _ _ fits.1, have_left fills _ fits.2)

both_true : (a b : Bool) → (a && b) ≡ true → (a ≡ true) × (b ≡ true)
both_true true b p = (refl, p)
both_true false b p = cc

-- the ids of a command that is taken are short
pub id_within : (markets : ℕ) (command : Command) → takes_command markets command ≡ true → id_bytes command ≤ MAX_ID_BYTES
id_within markets (Quote market bid offer) takes = omega arith
id_within markets (New member id terms) takes =
    short_within_limits (New member id terms) (both_true (fits_limits (New member id terms)) true takes).0
id_within markets (Cancel member id orig) takes = omega arith
id_within markets (Replace member id orig terms) takes =
    (short_within_limits (Replace member id orig terms) (both_true (fits_limits (Replace member id orig terms)) true takes).0).0
id_within markets (Request member id side) takes = omega arith

less_than : (m n : ℕ) → nat_lt m n ≡ true → m < n
less_than m n e = grind (arith, nat_tests)

own_is : (side : Side) (s : State) → own_rows side s ≡ own_of side s.buys s.sells
own_is Buy s = refl
own_is Sell s = refl

others_are : (side : Side) (s : State) → other_rows side s ≡ others_of side s.buys s.sells
others_are Buy s = refl
others_are Sell s = refl

new_fits : (tick event member : ℕ) (id : List ℕ) (terms : Terms) (s : State) → FillsFit (arrival_fills (arrival_of_new tick event member id terms s)) (arrival_of_new tick event member id terms s).state.orders
    → NewFits tick event member id terms (best_of s.markets) s.buys s.sells s.orders
unfolding arrival_of_new
new_fits tick event member id terms s fits =
    let arrival = arrival_of_new tick event member id terms s in
    let side : Side = arrival.taker.row.key.side in
    have_left _ _ (subst (λ (rows : List Priced × List Priced). FillsFit (entered arrival.taker arrival.immediate rows.0 rows.1).fills arrival.state.orders)
    (both_are (own_is side arrival.state) (others_are side arrival.state)) fits)
  where
    both_are : {a b c d : List Priced} → a ≡ b → c ≡ d → ◌≡◌ {A = List Priced × List Priced} (a, c) (b, d)
    both_are e f = cc

replace_fits : (tick event member : ℕ) (id orig : List ℕ) (terms : Terms) (live : Live) (s : State) → FillsFit (arrival_fills (arrival_of_replace tick event member id orig terms live s)) (arrival_of_replace tick event member id orig terms live s).state.orders
    → ReplaceFits tick event member id terms live (best_of s.markets) s.buys s.sells s.orders
unfolding arrival_of_replace
replace_fits tick event member id orig terms live s fits =
    let arrival = arrival_of_replace tick event member id orig terms live s in
    let side : Side = arrival.taker.row.key.side in
    have_left _ _ (subst (λ (rows : List Priced × List Priced). FillsFit (entered arrival.taker arrival.immediate rows.0 rows.1).fills arrival.state.orders)
    (both_are (own_is side arrival.state) (others_are side arrival.state)) fits)
  where
    both_are : {a b c d : List Priced} → a ≡ b → c ≡ d → ◌≡◌ {A = List Priced × List Priced} (a, c) (b, d)
    both_are e f = cc

module _ (quote_law : QuoteTradesFit) (new_law : NewTradesFit) (replace_law : ReplaceTradesFit) (markets tick : ℕ) (journal : List Event) (numbered : IsNumbered journal) where
  after_history : (event : ℕ) (command : Command) → event ≡ length journal + 1 → takes_command (length (runs markets tick journal).state.markets) command ≡ true → CanWork tick event command (runs markets tick journal).state
  after_history event (Quote market bid offer) number takes =
      let both = both_true (fits_limits (Quote market bid offer)) (nat_lt market (length (runs markets tick journal).state.markets)) takes in
      (less_than _ _ both.1, have_left _ _ (quote_law markets tick journal numbered event (best_of (slice_set (runs markets tick journal).state.markets market (record { bid = bid; offer = offer })))))
  after_history event (New member id terms) number takes =
      let both = both_true (fits_limits (New member id terms)) true takes in
      let s : State = (runs markets tick journal).state in
      (short_within_limits (New member id terms) both.0, λ e. subst (λ (n : ℕ). NewFits tick n member id terms (best_of s.markets) s.buys s.sells s.orders) (sym number) (new_fits tick (length journal + 1) member id terms s (new_law markets tick journal numbered member id terms)))
  after_history event (Cancel member id orig) number takes = tt
  after_history event (Replace member id orig terms) number takes =
      let both = both_true (fits_limits (Replace member id orig terms)) true takes in
      let s : State = (runs markets tick journal).state in (
        (short_within_limits (Replace member id orig terms) both.0).0,
        λ live named e. (
          quantity_above member id orig terms tick _ live e,
          subst (λ (n : ℕ). ReplaceFits tick n member id terms live (best_of s.markets) s.buys s.sells s.orders) (sym number)
              (replace_fits tick (length journal + 1) member id orig terms live s (replace_law markets tick journal numbered member id orig terms live named e)),
        ),
      )
  after_history event (Request member id side) number takes = tt

  -- so in a book whose state that is
  pub can_work : (s : State) (event : ℕ) (command : Command) → (runs markets tick journal).state ≡ s → event ≡ length journal + 1 → takes_command (length s.markets) command ≡ true → CanWork tick event command s
  can_work s event command is number takes =
      subst (λ (t : State). CanWork tick event command t) is (after_history event command number (subst (λ (t : State). takes_command (length t.markets) command ≡ true) (sym is) takes))
