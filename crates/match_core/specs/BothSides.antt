-- Both sides of a book, seen from the side of one order.
use Rattle.std.specs.Prelude.{◌≡◌, ℕ, Bool, List, Some}
use Rattle.venue_words.specs.declared.price.Best.{Best}
use Rattle.venue_words.specs.declared.price.Side.{Side}
use Rattle.venue_words.specs.declared.price.Side.TheVariants.{Buy, Sell}
use Rattle.venue_words.specs.declared.row.Row.{Row}
use Rattle.venue_words.specs.declared.row.Priced.{Priced}
use Rattle.venue_words.specs.Retime.{reprice}
use Rattle.eager_meaning.specs.Entering.{Entered, entered}
use Rattle.eager_meaning.specs.Recheck.{Matched, recheck}
use Rattle.eager_meaning.specs.Showing.{row_of_order}
use Rattle.peg_groups.specs.Side.{priced_at}

-- for a buy the first, for a sell the second: the own side of buys and sells, or the buys of own and other rows
abbrev pub own_of : Side → List Priced → List Priced → List Priced
own_of Buy x y = x
own_of Sell x y = y

-- for a buy the second, for a sell the first: the other side of buys and sells, or the sells of own and other rows
abbrev pub others_of : Side → List Priced → List Priced → List Priced
others_of Buy x y = y
others_of Sell x y = x

-- what a new quote makes of both sides, and the trades
abbrev pub requoted_rows : ℕ → Best → List Priced → List Priced → Matched
requoted_rows event best buys sells = recheck (reprice event best buys) (reprice event best sells)

-- what becomes of a row that enters and of both sides, and the trades
abbrev pub entered_rows : Best → Row → Bool → List Priced → List Priced → Entered
entered_rows best row immediate buys sells =
    entered (priced_at best row) immediate (own_of row.key.side buys sells) (others_of row.key.side buys sells)

-- a row of this order rests, of this key, cap and entry
pub record Rests (row : Row) (rows : List Priced) : Type 0 where
  pub found : Priced
  pub is : row_of_order row.order rows ≡ Some found
  pub key_is : found.row.key ≡ row.key
  pub cap_is : found.row.cap ≡ row.cap
  pub entry_is : found.row.entry ≡ row.entry
