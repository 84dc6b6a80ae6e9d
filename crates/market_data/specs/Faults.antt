-- Why a snapshot is refused.
use Rattle.std.specs.Prelude.{ℕ, ◌==◌, Bool, ◌&&◌, not, nat_lt, if◌then◌else◌, List, [], ◌∷◌, ◌++◌, map, count_by, Option, Some, None, is_none, option_and_then, unwrap_or}
use Rattle.venue_words.specs.declared.config.Config.{Config}
use Rattle.fix_fields.specs.declared.field.Field.{Field}
use Rattle.order_fields.specs.declared.tags.TheConstants.{SYMBOL}
use Rattle.session_core.specs.declared.checks.FailedCheck.{FailedCheck}
use Rattle.session_core.specs.declared.reasons.TheConstants.{TAG_MISSING, TAG_REPEATED, VALUE_OUT_OF_FORM, VALUE_OUT_OF_RANGE}
use Rattle.session_core.specs.Lookup.{value_of, number_in as number_of_tag}
use Rattle.quote_intake.specs.Quote.{number_in}
use Rattle.market_data.specs.declared.tags.TheConstants.{NO_MD_ENTRIES, MD_ENTRY_TYPE, MD_ENTRY_PX, MD_MKT}
use Rattle.market_data.specs.declared.entries.EntryType.{EntryType}
use Rattle.market_data.specs.Entries.{entries_of, entry_type, has_price, price_in, market_in}

-- a check that fails for a tag by a reason, where a test holds
abbrev pub fails_if : Bool → ℕ → ℕ → Option FailedCheck
fails_if test reason tag = if test then Some (record { reason = reason; tag = tag }) else None

-- the first of these that is there
abbrev pub first_some : {A : Type 0} → List (Option A) → Option A
first_some [] = None
first_some (None ∷ others) = first_some others
first_some (Some x ∷ others) = Some x

-- how often a tag stands among the fields
abbrev pub count_of : ℕ → List Field → ℕ
count_of tag fields = count_by (λ field. field.tag == tag) fields

-- the number of the symbol, where that is configured
unfoldable pub symbol_in : List (List ℕ) → List Field → Option ℕ
symbol_in symbols fields = option_and_then (number_in symbols) (value_of SYMBOL fields)

-- why a snapshot is refused before its entries are read: a tag that is missing, one that stands twice, a number of entries
-- that is none, a symbol that is not configured, another number of entries than there are
abbrev pub head_faults : List (List ℕ) → List Field → List (Option FailedCheck)
head_faults symbols fields =
    fails_if (is_none (value_of SYMBOL fields)) TAG_MISSING SYMBOL
    ∷ fails_if (is_none (value_of NO_MD_ENTRIES fields)) TAG_MISSING NO_MD_ENTRIES
    ∷ fails_if (nat_lt 1 (count_of SYMBOL fields)) TAG_REPEATED SYMBOL
    ∷ fails_if (nat_lt 1 (count_of NO_MD_ENTRIES fields)) TAG_REPEATED NO_MD_ENTRIES
    ∷ fails_if (is_none (number_of_tag NO_MD_ENTRIES fields)) VALUE_OUT_OF_FORM NO_MD_ENTRIES
    ∷ fails_if (is_none (symbol_in symbols fields)) VALUE_OUT_OF_RANGE SYMBOL
    ∷ fails_if (not (count_of MD_ENTRY_TYPE fields == unwrap_or (number_of_tag NO_MD_ENTRIES fields) 0)) VALUE_OUT_OF_RANGE NO_MD_ENTRIES
    ∷ []

-- why a used entry is refused: a price that is missing, one that is no whole cents within the limits, a market that is
-- missing, one that is not configured
abbrev pub entry_faults : List (List ℕ) → List Field → EntryType → List (Option FailedCheck)
entry_faults markets entry of =
    fails_if (has_price of && is_none (value_of MD_ENTRY_PX entry)) TAG_MISSING MD_ENTRY_PX
    ∷ fails_if (has_price of && is_none (price_in entry)) VALUE_OUT_OF_RANGE MD_ENTRY_PX
    ∷ fails_if (is_none (value_of MD_MKT entry)) TAG_MISSING MD_MKT
    ∷ fails_if (is_none (market_in markets entry)) VALUE_OUT_OF_RANGE MD_MKT
    ∷ []

-- an entry of another type is ignored
abbrev pub fault_of_type : List (List ℕ) → List Field → Option EntryType → Option FailedCheck
fault_of_type markets entry None = None
fault_of_type markets entry (Some of) = first_some (entry_faults markets entry of)

abbrev pub entry_fault : List (List ℕ) → List Field → Option FailedCheck
entry_fault markets entry = fault_of_type markets entry (entry_type entry)

-- the first fault of the entries, one after the other
abbrev pub entries_fault : List (List ℕ) → List (List Field) → Option FailedCheck
entries_fault markets entries = first_some (map (entry_fault markets) entries)

-- the first fault of a snapshot
abbrev pub snapshot_fault : List Field → Config → Option FailedCheck
snapshot_fault fields config =
    first_some (head_faults config.symbols fields ++ map (entry_fault config.markets) (entries_of fields))
