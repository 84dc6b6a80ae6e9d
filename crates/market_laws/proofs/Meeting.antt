-- Orders that meet are of opposite sides, and trade within the quote.
use Rattle.std.proofs.Common.{◌≡◌, ℕ, ◌≤◌, true, false, cond, List, [], ◌∷◌, Option, Some, None, refl, ap, arith}
use Rattle.std.specs.Prelude.{nat_eq}
use Rattle.std.specs.Option.{option_eq}
use Rattle.std.specs.List.{AllByRecursion}
use Rattle.std.proofs.lemmas.Bool.Decides.{nat_tests}
use Rattle.venue_words.specs.declared.price.TheConstants.{PRICE_END}
use Rattle.venue_words.specs.declared.price.Best.{Best}
use Rattle.venue_words.specs.declared.price.Side.{Side}
use Rattle.venue_words.specs.declared.price.Side.TheVariants.{Buy, Sell}
use Rattle.venue_words.specs.declared.row.Priced.{Priced}
use Rattle.venue_words.specs.ListLaws.{all_append, all_weaken}
use Rattle.venue_words.specs.Peg.{value_under}
use Rattle.venue_words.specs.Priority.{in_priority}
use Rattle.venue_words.specs.Retime.{retime, reprice}
use Rattle.eager_meaning.specs.declared.order.Order.{Order}
use Rattle.eager_meaning.specs.declared.trade.Fill.{Fill}
use Rattle.eager_meaning.specs.declared.trade.Take.{Take}
use Rattle.eager_meaning.specs.Walk.{total_of}
use Rattle.eager_meaning.specs.Matching.{takes_of, fill_of, fills_of, row_after, rows_after}
use Rattle.eager_meaning.specs.Recheck.{Sides, meet, crosses_any, sweep, Matched, recheck}
use Rattle.market_laws.specs.Placed.{side_at, opposite, IsOnSide, IsPlaced}
use Rattle.market_laws.specs.Trading.{IsWithinQuote}
use Rattle.market_laws.specs.ListLaws.{all_map}
use Rattle.market_laws.specs.WalkLaws.{IsMet, takes_all, rows_after_all, in_priority_all}
use Rattle.market_laws.proofs.Bounding.{price_within, price_most}

-- both orders of a trade are there, of opposite sides, and its price is within the quote
pub record IsFairFill (best : Best) (orders : List Order) (fill : Fill) : Type 0 where
  pub side : Side
  pub taker : side_at orders fill.taker.order ≡ Some side
  pub contra : side_at orders fill.contra.order ≡ Some (opposite side)
  pub price : IsWithinQuote best fill.price
  pub most : fill.price ≤ PRICE_END

pub stays_placed : (best : Best) (orders : List Order) (side : Side) (n : ℕ) (x : Priced) → IsPlaced best orders side x → IsPlaced best orders side (row_after n x)
unfolding row_after value_under
stays_placed best orders side n x p = record { on = record { key = p.on.key; order = p.on.order }; priced = p.priced }

pub fills_fair : (best : Best) (orders : List Order) (side : Side) (taker : Priced) (others : List Priced) → IsPlaced best orders side taker → AllByRecursion (IsPlaced best orders (opposite side)) others → AllByRecursion (IsFairFill best orders) (fills_of taker (takes_of taker others))
unfolding fills_of
fills_fair best orders side taker others p a =
    all_map (IsMet (IsPlaced best orders (opposite side)) taker) (IsFairFill best orders) (fill_of taker)
    (λ take met. record {
      side = side;
      taker = p.on.order;
      contra = met.0.on.order;
      price = price_within best side taker take.contra p.on.key met.0.on.key p.priced met.0.priced met.1;
      most = price_most best taker take.contra p.priced met.0.priced;
    })
    (takes_of taker others) (takes_all (IsPlaced best orders (opposite side)) taker others a)

pub left_placed : (best : Best) (orders : List Order) (side : Side) (takes : List Take) (rows : List Priced) → AllByRecursion (IsPlaced best orders side) rows → AllByRecursion (IsPlaced best orders side) (rows_after takes rows)
left_placed best orders side takes rows a = rows_after_all (IsPlaced best orders side) (stays_placed best orders side) takes rows a

-- two sides of a book in which all is in place, and whose trades are fair
pub record AreFair (best : Best) (orders : List Order) (side : Side) (sides : Sides) : Type 0 where
  pub own : AllByRecursion (IsPlaced best orders side) sides.own
  pub others : AllByRecursion (IsPlaced best orders (opposite side)) sides.others
  pub fills : AllByRecursion (IsFairFill best orders) sides.fills

meet_fair : (best : Best) (orders : List Order) (side : Side) (taker : Priced) (sides : Sides) → IsPlaced best orders side taker → AreFair best orders side sides → AreFair best orders side (meet taker sides)
unfolding meet
meet_fair best orders side taker sides p a =
    let takes : List Take = takes_of taker sides.others in
    record {
      own = left_placed best orders side (record { contra = taker; shares = total_of takes } ∷ []) sides.own a.own;
      others = left_placed best orders (opposite side) takes sides.others a.others;
      fills = all_append (IsFairFill best orders) sides.fills (fills_of taker takes) a.fills (fills_fair best orders side taker sides.others p a.others);
    }

sweep_fair : (best : Best) (orders : List Order) (side : Side) (takers : List Priced) (sides : Sides) → AllByRecursion (IsPlaced best orders side) takers → AreFair best orders side sides → AreFair best orders side (sweep takers sides)
unfolding sweep
sweep_fair best orders side [] sides t a = a
sweep_fair best orders side (taker ∷ takers) sides t a =
    elim (crosses_any taker sides.others) as (λ b. AreFair best orders side (cond b (sweep takers (meet taker sides)) sides))
    [ true ↦ sweep_fair best orders side takers (meet taker sides) t.1 (meet_fair best orders side taker sides t.0 a) | false ↦ a ]

-- a rechecked book in which all is in place, and whose trades are fair
pub record IsFairlyMatched (best : Best) (orders : List Order) (matched : Matched) : Type 0 where
  pub buys : AllByRecursion (IsPlaced best orders Buy) matched.buys
  pub sells : AllByRecursion (IsPlaced best orders Sell) matched.sells
  pub fills : AllByRecursion (IsFairFill best orders) matched.fills

pub recheck_fair : (best : Best) (orders : List Order) (buys sells : List Priced) → AllByRecursion (IsPlaced best orders Buy) buys → AllByRecursion (IsPlaced best orders Sell) sells → IsFairlyMatched best orders (recheck buys sells)
unfolding recheck
recheck_fair best orders buys sells b s =
    let before : Sides = record { own = buys; others = sells; fills = [] } in
    let first = sweep_fair best orders Buy (in_priority buys) before (in_priority_all (IsPlaced best orders Buy) buys b) (record { own = b; others = s; fills = tt }) in
    let half : Sides = sweep (in_priority buys) before in
    let second = sweep_fair best orders Sell (in_priority half.others) (record { own = half.others; others = half.own; fills = half.fills }) (in_priority_all (IsPlaced best orders Sell) half.others first.others) (record { own = first.others; others = first.own; fills = first.fills }) in
    record { buys = second.others; sells = second.own; fills = second.fills }

-- ---- a new quote puts each row in its place

same_number : (n m : ℕ) → nat_eq n m ≡ true → m ≡ n
same_number n m h = grind (arith, nat_tests)

pub same_option : (x y : Option ℕ) → option_eq nat_eq x y ≡ true → y ≡ x
same_option None None h = refl
same_option None (Some m) h = cc
same_option (Some n) None h = cc
same_option (Some n) (Some m) h = ap Some (same_number n m h)

retime_places : (event : ℕ) (best : Best) (orders : List Order) (side : Side) (x : Priced) → IsOnSide orders side x → IsPlaced best orders side (retime event best x)
unfolding retime
retime_places event best orders side x p =
    let value : Option ℕ = value_under best x.row in
    (elim (option_eq nat_eq value x.value) as (λ b. option_eq nat_eq value x.value ≡ b → IsPlaced best orders side (cond b x (record { row = x.row; value = value; time = event }))) [
      | true ↦ λ e. record { on = p; priced = same_option value x.value e }
      | false ↦ λ e. record { on = record { key = p.key; order = p.order }; priced = refl }
    ]) refl

pub reprice_places : (event : ℕ) (old best : Best) (orders : List Order) (side : Side) (rows : List Priced) → AllByRecursion (IsPlaced old orders side) rows → AllByRecursion (IsPlaced best orders side) (reprice event best rows)
unfolding reprice
reprice_places event old best orders side rows a =
    all_map (IsPlaced old orders side) (IsPlaced best orders side) (retime event best) (λ x p. retime_places event best orders side x p.on) rows a

-- ---- orders that keep their sides

pub same_sides : (best : Best) (orders next : List Order) (side : Side) → ((j : ℕ) (s : Side) → side_at orders j ≡ Some s → side_at next j ≡ Some s) → (rows : List Priced) → AllByRecursion (IsPlaced best orders side) rows → AllByRecursion (IsPlaced best next side) rows
same_sides best orders next side h rows a =
    all_weaken (IsPlaced best orders side) (IsPlaced best next side) (λ x p. record { on = record { key = p.on.key; order = h x.row.order side p.on.order }; priced = p.priced }) rows a
