-- The two sides of a symbol's book, as matching keeps them.
use Rattle.std.specs.Prelude.{◌≡◌, ℕ, ◌<◌, ◌≤◌, List, Option}
use Rattle.std.specs.List.{AllByRecursion}
use Rattle.std.specs.declared.alloc.Global.{Global}
use Rattle.std.specs.declared.boxed.Box.{Box}
use Rattle.venue_words.specs.declared.price.Best.{Best}
use Rattle.venue_words.specs.declared.price.Side.{Side}
use Rattle.venue_words.specs.declared.price.Side.TheVariants.{Buy, Sell}
use Rattle.venue_words.specs.declared.row.Priced.{Priced}
use Rattle.venue_words.specs.Rows.{IsByEntry, IsAbsent}
use Rattle.limit_tree.specs.Part.{Part}
use Rattle.peg_groups.specs.Side.{SideState}
use Rattle.match_core.specs.declared.scratch.Scratch.{Scratch}

-- both sides with room for matching, the quote of both, the last event at which a row entered or all were priced, and
-- a node for a row that enters
pub record SidesView (S : Type 0) : Type 0 where
  pub buys : S
  pub sells : S
  pub scratch : Scratch
  pub spare : Option (Box Part Global)
  pub best : Best
  pub latest : ℕ

-- what is said of the buys for a buy, and of the sells for a sell
abbrev pub OnSide : Side → Type 0 → Type 0 → Type 0
OnSide Buy bought sold = bought
OnSide Sell bought sold = sold

-- a row of this side that has shares left, neither entered nor retimed after the last event
pub record IsRowOf (side : Side) (latest : ℕ) (x : Priced) : Type 0 where
  pub side_is : x.row.key.side ≡ side
  pub time : x.time ≤ latest
  pub entry : x.row.entry ≤ latest
  pub has : 0 < x.row.leaves

-- rows of one side, in order of entry
pub record AreRowsOf (side : Side) (latest : ℕ) (rows : List Priced) : Type 0 where
  pub each : AllByRecursion (IsRowOf side latest) rows
  pub sorted : IsByEntry rows

-- the buys and the sells, of which no two have one entry
pub record AreBoth (latest : ℕ) (buys sells : List Priced) : Type 0 where
  pub buys_are : AreRowsOf Buy latest buys
  pub sells_are : AreRowsOf Sell latest sells
  pub apart : AllByRecursion (λ x. IsAbsent x.row.entry sells) buys

-- a side was priced by this quote, not after the last event
pub record IsPricedBy (best : Best) (latest : ℕ) (side : SideState) : Type 0 where
  pub best_is : side.best ≡ best
  pub event : side.event ≤ latest

-- both sides agree with each other, and with the quote and the last event
pub record AreSides (best : Best) (latest : ℕ) (buys sells : SideState) : Type 0 where
  pub rows : AreBoth latest buys.rows sells.rows
  pub buys_by : IsPricedBy best latest buys
  pub sells_by : IsPricedBy best latest sells
