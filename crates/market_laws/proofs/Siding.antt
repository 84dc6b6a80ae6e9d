-- An order's side never changes.
use Rattle.std.proofs.Common.{◌≡◌, ℕ, zero, suc, List, [], ◌∷◌, ◌++◌, length, Some, refl, ap, ◌∙◌}
use Rattle.venue_words.specs.declared.price.Side.{Side}
use Rattle.eager_meaning.specs.declared.order.Order.{Order}
use Rattle.eager_meaning.specs.declared.trade.Fill.{Fill}
use Rattle.eager_meaning.specs.Orders.{changed_at}
use Rattle.eager_meaning.specs.Trades.{order_after, orders_after, orders_after_all}
use Rattle.market_laws.specs.ChangedLaws.{changed_next}
use Rattle.market_laws.specs.Placed.{side_at}

pub side_changed : (f : Order → Order) → ((order : Order) → (f order).side ≡ order.side) → (k : ℕ) (orders : List Order) (j : ℕ) → side_at (changed_at f k orders) j ≡ side_at orders j
side_changed f h k [] j = refl
side_changed f h zero (o ∷ os) zero = ap Some (h o)
side_changed f h zero (o ∷ os) (suc j) = refl
side_changed f h (suc k) (o ∷ os) zero = rw (changed_next f k o os) refl
side_changed f h (suc k) (o ∷ os) (suc j) = rw (changed_next f k o os) (side_changed f h k os j)

side_after : (fill : Fill) (order : Order) → (order_after fill order).side ≡ order.side
unfolding order_after
side_after fill order = refl

pub sides_after : (fill : Fill) (orders : List Order) (j : ℕ) → side_at (orders_after fill orders) j ≡ side_at orders j
unfolding orders_after
sides_after fill orders j =
    side_changed (order_after fill) (side_after fill) fill.contra.order (changed_at (order_after fill) fill.taker.order orders) j
    ∙ side_changed (order_after fill) (side_after fill) fill.taker.order orders j

pub sides_after_all : (fills : List Fill) (orders : List Order) (j : ℕ) → side_at (orders_after_all fills orders) j ≡ side_at orders j
unfolding orders_after_all
sides_after_all [] orders j = refl
sides_after_all (fill ∷ fills) orders j = sides_after_all fills (orders_after fill orders) j ∙ sides_after fill orders j

pub side_kept : (orders : List Order) (order : Order) (j : ℕ) (side : Side) → side_at orders j ≡ Some side → side_at (orders ++ order ∷ []) j ≡ Some side
side_kept [] order j side h = cc
side_kept (o ∷ os) order zero side h = h
side_kept (o ∷ os) order (suc j) side h = side_kept os order j side h

pub side_of_last : (orders : List Order) (order : Order) → side_at (orders ++ order ∷ []) (length orders) ≡ Some order.side
side_of_last [] order = refl
side_of_last (o ∷ os) order = side_of_last os order
