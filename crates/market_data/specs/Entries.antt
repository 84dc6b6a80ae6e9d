-- The entries of a snapshot, and what each of them tells.
use Rattle.std.specs.Prelude.{ℕ, ◌/◌, ◌%◌, ◌==◌, Bool, true, false, if◌then◌else◌, List, [], ◌∷◌, Option, Some, None, option_map, option_and_then, unwrap_or, codes, ℤ, pos, negsuc, filter_map}
use Rattle.std.specs.List.{before_first}
use Rattle.fix_fields.specs.declared.field.Field.{Field}
use Rattle.fix_fields.specs.Forms.{amount_of}
use Rattle.session_core.specs.Lookup.{value_of, is_value}
use Rattle.quote_intake.specs.Price.{in_range}
use Rattle.quote_intake.specs.Quote.{number_in}
use Rattle.market_data.specs.declared.tags.TheConstants.{MD_ENTRY_TYPE, MD_ENTRY_PX, MD_MKT}
use Rattle.market_data.specs.declared.entries.EntryType.{EntryType}
use Rattle.market_data.specs.declared.entries.EntryType.TheVariants.{Bid, Offer, EmptyBook}
use Rattle.market_data.specs.declared.entries.EntryQuote.{EntryQuote}

-- whether an entry begins with this field
abbrev pub begins_entry : Field → Bool
begins_entry field = field.tag == MD_ENTRY_TYPE

-- the entry that begins with the first of these fields: up to the next one that begins an entry, or to the end
abbrev pub entry_of : List Field → List Field
entry_of [] = []
entry_of (field ∷ fields) = field ∷ before_first begins_entry fields

-- all entries, in their order
unfoldable pub entries_of : List Field → List (List Field)
entries_of [] = []
entries_of (field ∷ fields) =
    if begins_entry field then entry_of (field ∷ fields) ∷ entries_of fields else entries_of fields

-- what an entry tells, where it is used: a bid, an offer, or that the market has neither
unfoldable pub entry_type : List Field → Option EntryType
entry_type entry =
    if is_value MD_ENTRY_TYPE (codes "0") entry then Some Bid
    else (if is_value MD_ENTRY_TYPE (codes "1") entry then Some Offer
    else (if is_value MD_ENTRY_TYPE (codes "J") entry then Some EmptyBook
    else None))

abbrev pub has_price : EntryType → Bool
has_price Bid = true
has_price Offer = true
has_price EmptyBook = false

-- the cents of so many units of 10^-8: whole cents from 0.01 to 19,999.99
unfoldable pub whole_cents : ℕ → Option ℕ
whole_cents units = if units % 1000000 == 0 then in_range (units / 1000000) else None

-- the cents of an amount
unfoldable pub cents_of_amount : ℤ → Option ℕ
cents_of_amount (pos units) = whole_cents units
cents_of_amount (negsuc n) = None

-- the price of an entry in cents, where it is one
unfoldable pub price_in : List Field → Option ℕ
price_in entry = option_and_then cents_of_amount (option_and_then amount_of (value_of MD_ENTRY_PX entry))

-- the number of an entry's market, where that is configured
unfoldable pub market_in : List (List ℕ) → List Field → Option ℕ
market_in markets entry = option_and_then (number_in markets) (value_of MD_MKT entry)

abbrev pub market_or_first : List (List ℕ) → List Field → ℕ
market_or_first markets entry = unwrap_or (market_in markets entry) 0

-- what an entry of a type says of its market
abbrev pub entry_quote : List (List ℕ) → List Field → EntryType → EntryQuote
entry_quote markets entry Bid = record { market = market_or_first markets entry; bid = price_in entry; offer = None }
entry_quote markets entry Offer = record { market = market_or_first markets entry; bid = None; offer = price_in entry }
entry_quote markets entry EmptyBook = record { market = market_or_first markets entry; bid = None; offer = None }

-- what an entry says, where it is used
abbrev pub used_quote : List (List ℕ) → List Field → Option EntryQuote
used_quote markets entry = option_map (entry_quote markets entry) (entry_type entry)

-- what the used entries say, in their order
abbrev pub used_quotes : List (List ℕ) → List (List Field) → List EntryQuote
used_quotes markets entries = filter_map (used_quote markets) entries
