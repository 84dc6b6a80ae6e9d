-- Which events a line of a listing can tell, so that they can be read again.
use Rattle.std.specs.Prelude.{ℕ, suc, ◌==◌, Bool, true, ◌&&◌, not, nat_lt, List, Option, Some, None, ℤ, pos, negsuc}
use Rattle.std.specs.Int.Signed.{le_z}
use Rattle.std.specs.List.{list_all, list_any}
use Rattle.venue_words.specs.declared.command.Command.{Command}
use Rattle.venue_words.specs.declared.command.Command.TheVariants.{Quote, New, Cancel, Replace, Status}
use Rattle.venue_words.specs.declared.command.Event.{Event}
use Rattle.venue_words.specs.declared.terms.Terms.{Terms}
use Rattle.venue_words.specs.declared.config.Config.{Config}
use Rattle.venue_words.specs.Conditions.{fits_limits}
use Rattle.venue_words.specs.Floors.{setup_of, is_configured}
use Rattle.fix_fields.specs.Fields.{is_end}
use Rattle.fix_fields.specs.declared.moments.TheConstants.{FIRST_MOMENT, LAST_MOMENT}
use Rattle.listing_reader.specs.declared.fitting.TheConstants.{NUMBER_END, AMOUNT_END}

-- ---- names

-- whether a byte is the space that parts words
abbrev pub is_space : ℕ → Bool
is_space byte = byte == 32

-- whether a text is one word
abbrev pub is_word : List ℕ → Bool
is_word text = not (list_any is_space text)

-- whether each of these names is one word
abbrev pub are_words : List (List ℕ) → Bool
are_words names = list_all is_word names

-- whether each name of a config is one word
unfoldable pub has_word_names : Config → Bool
has_word_names config = are_words config.members && (are_words config.markets && are_words config.symbols)

-- ---- values

-- whether a value is none, or one that passes
abbrev pub if_there : {V : Type 0} → (V → Bool) → Option V → Bool
if_there passes None = true
if_there passes (Some value) = passes value

-- a number of at most nine digits
abbrev pub fits_number : ℕ → Bool
fits_number number = nat_lt number NUMBER_END

-- an amount with at most 18 digits before its point
abbrev pub fits_amount : ℤ → Bool
fits_amount (pos units) = nat_lt units AMOUNT_END
fits_amount (negsuc units) = nat_lt (suc units) AMOUNT_END

-- a byte that can stand in a value, since it does not end the field
abbrev pub fits_code : ℕ → Bool
fits_code code = nat_lt code 256 && not (is_end code)

-- a text of such bytes
abbrev pub fits_text : List ℕ → Bool
fits_text text = list_all fits_code text

-- a moment of the years 0 to 9999
abbrev pub fits_moment : ℤ → Bool
fits_moment moment = le_z FIRST_MOMENT moment && le_z moment LAST_MOMENT

-- ---- events

-- what is to be traded
unfoldable pub fits_order_terms : Terms → Bool
fits_order_terms terms =
    fits_code terms.side && (fits_amount terms.quantity && (fits_code terms.kind && (if_there fits_amount terms.price
    && (if_there fits_code terms.force && (if_there fits_amount terms.minimum && if_there fits_number terms.method)))))

-- how it is pegged
unfoldable pub fits_peg_terms : Terms → Bool
fits_peg_terms terms =
    if_there fits_number terms.peg && (if_there fits_amount terms.offset && (if_there fits_number terms.offset_kind
    && (if_there fits_number terms.moves && if_there fits_number terms.round)))

abbrev pub fits_terms : Terms → Bool
fits_terms terms = fits_order_terms terms && fits_peg_terms terms

-- whether the values of a command have the forms of fields
unfoldable pub fits_fields : Command → Bool
fits_fields (Quote market bid offer) = true
fits_fields (New member id terms) = fits_text id && fits_terms terms
fits_fields (Cancel member id orig) = fits_text id && fits_text orig
fits_fields (Replace member id orig terms) = fits_text id && (fits_text orig && fits_terms terms)
fits_fields (Status member id side) = fits_text id && fits_code side

-- whether a command is of configured things, keeps to the limits of the venue, and can be told by fields
unfoldable pub fits_command : Config → Command → Bool
fits_command config command = is_configured (setup_of config) command && (fits_limits command && fits_fields command)

-- whether an event can be told by a line of the config's listing
unfoldable pub fits_event : Config → Event → Bool
fits_event config event =
    fits_number event.number && (fits_number event.feed && (fits_moment event.moment && fits_command config event.command))
