-- The state of a symbol's book, as plain lists, and what an event makes of it.
use Rattle.std.specs.Prelude.{ℕ, List, [], ◌∷◌, ◌++◌, replicate, None}
use Rattle.venue_words.specs.declared.price.Side.{Side}
use Rattle.venue_words.specs.declared.price.Side.TheVariants.{Buy, Sell}
use Rattle.venue_words.specs.declared.price.Best.{Best}
use Rattle.venue_words.specs.declared.row.Priced.{Priced}
use Rattle.venue_words.specs.declared.report.Kind.{Kind}
use Rattle.eager_meaning.specs.declared.order.Order.{Order}
use Rattle.eager_meaning.specs.declared.notice.Notice.{Notice}

-- the markets' quotes, the resting buys and sells in order of entry, each accepted New, and the ids that are used up,
-- each with its member
pub record State : Type 0 where
  pub markets : List Best
  pub buys : List Priced
  pub sells : List Priced
  pub orders : List Order
  pub used : List (ℕ × List ℕ)

-- the state before the first event
abbrev pub initial : ℕ → State
initial markets =
    record {
      markets = replicate markets (record { bid = None; offer = None });
      buys = [];
      sells = [];
      orders = [];
      used = [];
    }

-- all resting rows
abbrev pub resting : State → List Priced
resting s = s.buys ++ s.sells

-- the rows of one side
abbrev pub own_rows : Side → State → List Priced
own_rows Buy s = s.buys
own_rows Sell s = s.sells

-- the rows of the other side
abbrev pub other_rows : Side → State → List Priced
other_rows Buy s = s.sells
other_rows Sell s = s.buys

-- the state with these rows of one side, and those of the other
abbrev pub with_rows : Side → List Priced → List Priced → State → State
with_rows Buy own others s = record s { buys = own; sells = others }
with_rows Sell own others s = record s { buys = others; sells = own }

-- the state in which the member used up the id
abbrev pub with_used : ℕ → List ℕ → State → State
with_used member id s = record s { used = s.used ++ (member, id) ∷ [] }

-- what an event leaves, and what members are told, in order
pub record Outcome : Type 0 where
  pub state : State
  pub notices : List Notice

-- this state, and nothing is told
abbrev pub with_no_notice : State → Outcome
with_no_notice s = record { state = s; notices = [] }

-- this state, and one member is told
abbrev pub with_notice : ℕ → Kind → State → Outcome
with_notice member kind s = record { state = s; notices = record { member = member; kind = kind } ∷ [] }
