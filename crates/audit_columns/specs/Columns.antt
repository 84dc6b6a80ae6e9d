-- Texts in columns, as an operator reads them.
use Rattle.std.specs.Prelude.{ℕ, ◌+◌, ◌-◌, ◌%◌, ◌==◌, if◌then◌else◌, ℤ, pos, List, ◌++◌, length, replicate, codes, decimal, slice_get, Option, Some, None}
use Rattle.std.specs.Option.{option_map_or}
use Rattle.venue_words.specs.declared.command.Event.{Event}
use Rattle.venue_words.specs.declared.price.Best.{Best}
use Rattle.fix_write.specs.Moments.{clock_text, milliseconds_of}
use Rattle.quote_text.specs.Sides.{side_text}

-- a text in a column: blanks stand behind it up to the width, and at least one
abbrev pub column : ℕ → List ℕ → List ℕ
column width text = text ++ replicate (1 + (width - length text)) 32

-- HH:MM:SS.sss of a moment
abbrev pub clock_of : ℤ → List ℕ
clock_of moment = clock_text (milliseconds_of moment % 86400000)

-- when the event of a number was taken
abbrev pub moment_at : List Event → ℕ → ℤ
moment_at journal number = option_map_or (λ event. event.moment) (slice_get journal (number - 1)) (pos 0)

-- the time of day of the event of a number
unfoldable pub event_clock : List Event → ℕ → List ℕ
event_clock journal number = clock_of (moment_at journal number)

-- an event's number, and beside it its time of day
unfoldable pub event_cells : List Event → ℕ → List ℕ
event_cells journal number = column 8 (decimal number) ++ column 13 (event_clock journal number)

-- a side of a quote with four decimals
unfoldable pub quote_side : Option ℕ → List ℕ
quote_side None = codes "none"
quote_side (Some cents) = side_text (Some cents) ++ codes "00"

-- bid BID, offer OFFER
unfoldable pub quote_text : Best → List ℕ
quote_text best = codes "bid " ++ quote_side best.bid ++ codes ", offer " ++ quote_side best.offer

-- shares, or a stroke for none
unfoldable pub shares_text : ℕ → List ℕ
shares_text shares = if shares == 0 then codes "-" else decimal shares
