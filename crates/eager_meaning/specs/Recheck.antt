-- The trades of a whole book after a new national quote.
use Rattle.std.specs.Prelude.{Bool, if◌then◌else◌, List, [], ◌∷◌, ◌++◌}
use Rattle.std.specs.List.{list_any}
use Rattle.venue_words.specs.declared.row.Priced.{Priced}
use Rattle.venue_words.specs.Price.{crosses}
use Rattle.venue_words.specs.Priority.{in_priority}
use Rattle.eager_meaning.specs.declared.trade.Fill.{Fill}
use Rattle.eager_meaning.specs.Walk.{total_of}
use Rattle.eager_meaning.specs.Matching.{takes_of, fills_of, rows_after}

-- the two sides of a book while one side's orders take, and the trades so far
pub record Sides : Type 0 where
  pub own : List Priced
  pub others : List Priced
  pub fills : List Fill

-- one resting order meets the other side
unfoldable pub meet : Priced → Sides → Sides
meet taker sides =
    let takes = takes_of taker sides.others in
    record {
      own = rows_after (record { contra = taker; shares = total_of takes } ∷ []) sides.own;
      others = rows_after takes sides.others;
      fills = sides.fills ++ fills_of taker takes;
    }

-- whether a taker crosses an active row of the other side
unfoldable pub crosses_any : Priced → List Priced → Bool
crosses_any taker others = list_any (crosses taker) others

-- each taker in turn, until one crosses nothing that is left
unfoldable pub sweep : List Priced → Sides → Sides
sweep [] sides = sides
sweep (taker ∷ takers) sides = if crosses_any taker sides.others then sweep takers (meet taker sides) else sides

-- a book's rows and the trades that led there
pub record Matched : Type 0 where
  pub buys : List Priced
  pub sells : List Priced
  pub fills : List Fill

-- the buys take in their order, and then the sells in theirs
unfoldable pub recheck : List Priced → List Priced → Matched
recheck buys sells =
    let first = sweep (in_priority buys) (record { own = buys; others = sells; fills = [] }) in
    let second =
    sweep (in_priority first.others) (record { own = first.others; others = first.own; fills = first.fills }) in
    record { buys = second.others; sells = second.own; fills = second.fills }
