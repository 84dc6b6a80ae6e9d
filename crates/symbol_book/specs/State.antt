-- The state that the parts of a book make up.
use Rattle.std.specs.Prelude.{ℕ, List}
use Rattle.venue_words.specs.declared.price.Best.{Best}
use Rattle.venue_words.specs.declared.row.Priced.{Priced}
use Rattle.eager_meaning.specs.declared.order.Order.{Order}
use Rattle.eager_meaning.specs.State.{State}

-- the state of a book with these parts
abbrev pub state_of : List Best → List Priced → List Priced → List Order → List (ℕ × List ℕ) → State
state_of markets buys sells orders used = record { markets = markets; buys = buys; sells = sells; orders = orders; used = used }
