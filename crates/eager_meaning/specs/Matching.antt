-- The trades of one taker, and what they leave of the rows.
use Rattle.std.specs.Prelude.{ℕ, ◌-◌, ◌||◌, nat_lt, ◌==◌, if◌then◌else◌, List, [], map, filter, find, unwrap_or}
use Rattle.std.specs.Option.{option_map_or}
use Rattle.venue_words.specs.declared.row.Priced.{Priced}
use Rattle.venue_words.specs.Price.{price_shown}
use Rattle.venue_words.specs.Priority.{in_priority, is_older}
use Rattle.eager_meaning.specs.declared.trade.Fill.{Fill}
use Rattle.eager_meaning.specs.declared.trade.Party.{Party}
use Rattle.eager_meaning.specs.declared.trade.Take.{Take}
use Rattle.eager_meaning.specs.Walk.{walk, stands}

-- each contra that trades, in priority order, with its shares; none where the walk does not stand
unfoldable pub takes_of : Priced → List Priced → List Take
takes_of taker others =
    let takes = walk taker taker.row.leaves (in_priority others) in
    if stands taker.row takes then filter (λ take. nat_lt 0 take.shares) takes else []

-- the price of the older of the two
unfoldable pub fill_price : Priced → Priced → ℕ
fill_price taker contra = unwrap_or (price_shown (if is_older taker contra then taker else contra)) 0

-- a row as a party of a trade
abbrev pub party_of : Priced → Party
party_of x = record { order = x.row.order; price = price_shown x; time = x.time }

-- the trade of a taker with a contra
abbrev pub fill_of : Priced → Take → Fill
fill_of taker take =
    record {
      taker = party_of taker;
      contra = party_of take.contra;
      quantity = take.shares;
      price = fill_price taker take.contra;
    }

-- the trades, in their order
unfoldable pub fills_of : Priced → List Take → List Fill
fills_of taker takes = map (fill_of taker) takes

-- a row after it traded a number of shares
unfoldable pub row_after : ℕ → Priced → Priced
row_after shares x =
    record x { row = record x.row { leaves = x.row.leaves - shares; traded = x.row.traded || nat_lt 0 shares } }

-- the shares taken from a row, which its entry names
unfoldable pub shares_of : List Take → Priced → ℕ
shares_of takes x = option_map_or (λ take. take.shares) (find (λ take. take.contra.row.entry == x.row.entry) takes) 0

-- the rows that have shares left
abbrev pub unfilled : List Priced → List Priced
unfilled rows = filter (λ x. nat_lt 0 x.row.leaves) rows

-- the rows after the trades, each in its place
unfoldable pub rows_after : List Take → List Priced → List Priced
rows_after takes rows = unfilled (map (λ x. row_after (shares_of takes x) x) rows)
