-- What becomes of the orders that rest on a side when one of them changes.
use Rattle.std.specs.Prelude.{◌≡◌, ℕ, ◌+◌, if◌then◌else◌, nat_lt}
use Rattle.watch_page.specs.declared.snapshot.Resting.{Resting}

-- an order with shares left rests, and one without does not
abbrev pub counted : ℕ → ℕ
counted leaves = if nat_lt 0 leaves then 1 else 0

-- the side has the order with these leaves among others, which stay as they are
pub record Holds (side : Resting) (leaves others_orders others_shares : ℕ) : Type 0 where
  pub orders : side.orders ≡ others_orders + counted leaves
  pub shares : side.shares ≡ others_shares + leaves
