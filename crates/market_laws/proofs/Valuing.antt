-- No order's trades are worth more than its CumQty at the greatest price.
use Rattle.std.proofs.Common.{◌≡◌, ℕ, zero, suc, ◌*◌, ◌≤◌, List, [], ◌∷◌, ◌++◌, Some, refl, subst, arith}
use Rattle.std.specs.Prelude.{slice_get}
use Rattle.std.specs.List.{AllByRecursion}
use Rattle.std.proofs.Math.Nat.{mul-le-mul_right}
use Rattle.venue_words.specs.declared.price.TheConstants.{PRICE_END}
use Rattle.venue_words.specs.declared.price.Best.{Best}
use Rattle.eager_meaning.specs.declared.order.Order.{Order}
use Rattle.eager_meaning.specs.declared.trade.Fill.{Fill}
use Rattle.eager_meaning.specs.Orders.{changed_at}
use Rattle.eager_meaning.specs.Trades.{order_after, orders_after, orders_after_all}
use Rattle.market_laws.specs.Equalities.{some_is}
use Rattle.market_laws.specs.Placed.{AreWorthAtMost}
use Rattle.market_laws.proofs.Meeting.{IsFairFill}
use Rattle.market_laws.specs.ChangedLaws.{changed_next}

-- what a change keeps of each order, it keeps of all
pub each_kept : (P : Order → Type 0) (f : Order → Order) → ((x : Order) → P x → P (f x)) → (j : ℕ) (orders : List Order) → ((k : ℕ) (x : Order) → slice_get orders k ≡ Some x → P x) → (k : ℕ) (x : Order) → slice_get (changed_at f j orders) k ≡ Some x → P x
each_kept P f h j [] all k x e = cc
each_kept P f h zero (o ∷ os) all zero x e = subst P (some_is _ _ e) (h o (all 0 o refl))
each_kept P f h zero (o ∷ os) all (suc k) x e = all (suc k) x e
each_kept P f h (suc j) (o ∷ os) all zero x e = all 0 x (subst (λ (ys : List Order). slice_get ys 0 ≡ Some x) (changed_next f j o os) e)
each_kept P f h (suc j) (o ∷ os) all (suc k) x e = each_kept P f h j os (λ i y g. all (suc i) y g) k x (subst (λ (ys : List Order). slice_get ys (suc k) ≡ Some x) (changed_next f j o os) e)

abbrev IsWorth : Order → Type 0
IsWorth order = order.notional ≤ PRICE_END * order.cum

worth_more : (fill : Fill) (order : Order) → fill.price ≤ PRICE_END → IsWorth order → IsWorth (order_after fill order)
unfolding order_after
worth_more fill order most h =
    let times : fill.price * fill.quantity ≤ PRICE_END * fill.quantity = mul-le-mul_right fill.quantity most in
    omega arith

pub worth_after_all : (best : Best) (sides : List Order) (fills : List Fill) → AllByRecursion (IsFairFill best sides) fills → (orders : List Order) → AreWorthAtMost orders → AreWorthAtMost (orders_after_all fills orders)
unfolding orders_after_all orders_after
worth_after_all best sides [] a orders h = h
worth_after_all best sides (fill ∷ fills) a orders h =
    worth_after_all best sides fills a.1 (orders_after fill orders)
    (each_kept IsWorth (order_after fill) (λ x w. worth_more fill x a.0.most w) fill.contra.order (changed_at (order_after fill) fill.taker.order orders)
    (each_kept IsWorth (order_after fill) (λ x w. worth_more fill x a.0.most w) fill.taker.order orders h))

pub worth_next : (orders : List Order) (order : Order) → order.notional ≡ 0 → AreWorthAtMost orders → AreWorthAtMost (orders ++ order ∷ [])
worth_next [] order e h zero x g = subst IsWorth (some_is _ _ g) (omega arith)
worth_next [] order e h (suc k) x g = cc
worth_next (o ∷ os) order e h zero x g = h 0 x g
worth_next (o ∷ os) order e h (suc k) x g = worth_next os order e (λ j y f. h (suc j) y f) k x g
