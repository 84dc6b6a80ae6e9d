-- Orders stay small as they trade, and their ids have room.
use Rattle.std.proofs.Common.{◌≡◌, ℕ, ◌+◌, ◌*◌, ◌^◌, ◌<◌, ◌≤◌, List, [], ◌∷◌, ◌++◌, length, All, sym, subst, arith}
use Rattle.std.specs.Prelude.{slice_index_or}
use Rattle.std.proofs.lemmas.List.Elements.{All-append}
use Rattle.std.proofs.Math.Nat.{mul-le-mul_right}
use Rattle.eager_meaning.specs.declared.order.Order.{Order}
use Rattle.symbol_book.specs.Orders.{HasIdWithin, IsSmall}

-- the sum of the prices after a trade at a price of 32 bits
worth_more : (notional cum price quantity : ℕ) → notional ≤ 2 ^ 32 * cum → price < 2 ^ 32 → notional + price * quantity ≤ 2 ^ 32 * (cum + quantity)
worth_more notional cum price quantity h p =
    let times : price * quantity ≤ 2 ^ 32 * quantity = mul-le-mul_right quantity (omega arith) in
    omega arith

pub traded_small : (order : Order) (price quantity : ℕ) → IsSmall order → order.cum + quantity ≤ order.quantity → price < 2 ^ 32 → IsSmall (record order { cum = order.cum + quantity; notional = order.notional + price * quantity })
traded_small order price quantity small left low =
    record { within = left; few = small.few; worth = worth_more order.notional order.cum price quantity small.worth low }

-- what holds of all holds of the one at a place
pub at_place : (P : Order → Type 0) (orders : List Order) (k : ℕ) (order : Order) → All P orders → k < length orders → order ≡ slice_index_or orders k order → P order
at_place P orders k order all less e = subst P (sym e) (all k order less)

-- each id has room where the longest has
pub longer_fit : (least most : ℕ) (orders : List Order) → least ≤ most → All (HasIdWithin least) orders → All (HasIdWithin most) orders
longer_fit least most orders more fit = λ k order less. record { id = omega (arith, more, (fit k order less).id) }

-- and that of one more order
pub one_more_fits : (most : ℕ) (orders : List Order) (order : Order) → length order.id ≤ most → All (HasIdWithin most) orders → All (HasIdWithin most) (orders ++ order ∷ [])
one_more_fits most orders order short fit =
    All-append (HasIdWithin most) orders (order ∷ []) fit (all_one (HasIdWithin most) order (record { id = short }))
  where
    all_one : (P : Order → Type 0) (x : Order) → P x → All P (x ∷ [])
    all_one P x p = grind (arith, p)
