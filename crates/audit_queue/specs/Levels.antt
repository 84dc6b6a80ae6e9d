-- A queue by price.
use Rattle.std.specs.Prelude.{ℕ, ◌+◌, Bool, if◌then◌else◌, List, [], ◌∷◌, nat_eq}
use Rattle.std.specs.Option.{option_eq}
use Rattle.venue_words.specs.declared.row.Priced.{Priced}
use Rattle.venue_words.specs.Price.{price_shown}
use Rattle.audit_queue.specs.declared.levels.Level.{Level}

-- an order alone at its price
abbrev pub level_of : Priced → Level
level_of x = record { price = price_shown x; orders = 1; shares = x.row.leaves }

-- whether an order has the price of others
abbrev pub is_at : Level → Priced → Bool
is_at level x = option_eq nat_eq level.price (price_shown x)

-- one more order at a price
abbrev pub with_order : Level → Priced → Level
with_order level x = record level { orders = level.orders + 1; shares = level.shares + x.row.leaves }

-- an order that goes before others
abbrev pub with_first : Priced → List Level → List Level
with_first x [] = level_of x ∷ []
with_first x (level ∷ levels) = if is_at level x then with_order level x ∷ levels else level_of x ∷ level ∷ levels

-- the prices of a queue, with their orders and shares
abbrev pub levels : List Priced → List Level
levels [] = []
levels (x ∷ rows) = with_first x (levels rows)

-- the orders and the shares at the first price
abbrev pub first_orders : List Level → ℕ
first_orders [] = 0
first_orders (level ∷ levels) = level.orders

abbrev pub first_shares : List Level → ℕ
first_shares [] = 0
first_shares (level ∷ levels) = level.shares
