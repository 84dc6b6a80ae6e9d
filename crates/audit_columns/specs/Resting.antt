-- How an order rests, in columns.
use Rattle.std.specs.Prelude.{ℕ, if◌then◌else◌, List, ◌++◌, codes, decimal, Option, Some, None}
use Rattle.std.specs.Option.{option_map_or}
use Rattle.venue_words.specs.declared.command.Event.{Event}
use Rattle.venue_words.specs.declared.price.Best.{Best}
use Rattle.venue_words.specs.declared.row.Priced.{Priced}
use Rattle.venue_words.specs.declared.row.Reference.{Reference}
use Rattle.venue_words.specs.Best.{is_locked}
use Rattle.venue_words.specs.Peg.{has_reference}
use Rattle.venue_words.specs.Price.{price_shown}
use Rattle.exec_reports.specs.Texts.{price_text}
use Rattle.audit_columns.specs.Columns.{column, event_cells, shares_text}

-- why a quote with both sides gives no price: it is locked or crossed and the reference is not there then, or the price that it
-- gives is out of range
abbrev pub why_no_price : Reference → Best → List ℕ
why_no_price reference best =
    if has_reference reference best
    then codes "out of range"
    else if is_locked best then codes "locked quote" else codes "crossed quote"

-- which side of a quote is missing, or else this
abbrev pub missing_or : Option ℕ → Option ℕ → List ℕ → List ℕ
missing_or None None other = codes "no quote"
missing_or None (Some offer) other = codes "no bid"
missing_or (Some bid) None other = codes "no offer"
missing_or (Some bid) (Some offer) other = other

-- why a row has no price under the national quote
unfoldable pub why_inactive : Reference → Best → List ℕ
why_inactive reference best = missing_or best.bid best.offer (why_no_price reference best)

-- the price of a row, or why it has none
unfoldable pub price_or_why : Best → Priced → List ℕ
price_or_why best x = option_map_or price_text (price_shown x) (why_inactive x.row.key.reference best)

-- PRICE TIME ENTRY LEAVES MINIMUM, of a row under the national quote
unfoldable pub row_cells : List Event → Best → Priced → List ℕ
row_cells journal best x =
    column 14 (price_or_why best x)
    ++ event_cells journal x.time
    ++ event_cells journal x.row.entry
    ++ column 10 (decimal x.row.leaves)
    ++ column 10 (shares_text x.row.minimum)

-- a price, or a stroke for none
abbrev pub price_or_stroke : Option ℕ → List ℕ
price_or_stroke None = codes "-"
price_or_stroke (Some price) = price_text price

-- PRICE SHARES ORDERS, of the orders at one price
unfoldable pub depth_cells : Option ℕ → ℕ → ℕ → List ℕ
depth_cells price shares orders =
    column 14 (price_or_stroke price) ++ column 10 (decimal shares) ++ decimal orders
