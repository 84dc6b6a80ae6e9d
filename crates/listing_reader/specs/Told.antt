-- What a line of a listing tells, where it is one.
use Rattle.std.specs.Prelude.{ℕ, ◌==◌, if◌then◌else◌, nat_le, List, [], length, slice_index, Option, None, unwrap_or, ℤ, pos}
use Rattle.std.specs.Result.{result_unwrap_or}
use Rattle.std.specs.List.{before_first, after_first}
use Rattle.venue_words.specs.declared.limits.TheConstants.{MAX_FRAME_BYTES}
use Rattle.venue_words.specs.declared.command.Command.{Command}
use Rattle.venue_words.specs.declared.command.Command.TheVariants.{Quote}
use Rattle.venue_words.specs.declared.command.Event.{Event}
use Rattle.venue_words.specs.declared.config.Config.{Config}
use Rattle.fix_fields.specs.declared.field.Field.{Field}
use Rattle.fix_fields.specs.Fields.{split}
use Rattle.fix_fields.specs.Forms.{number_of, moment_of}
use Rattle.fix_write.specs.declared.message_type.MessageType.{MessageType}
use Rattle.fix_write.specs.MessageTypes.{type_of}
use Rattle.order_fields.specs.Order.{command_of}
use Rattle.quote_intake.specs.Price.{price_of}
use Rattle.quote_intake.specs.Quote.{number_in}
use Rattle.script_text.specs.Escaping.{text_of}
use Rattle.listing_reader.specs.declared.lines.Counts.{Counts}
use Rattle.listing_reader.specs.Fitting.{is_space}

-- ---- words

-- the first word of a text, and what stands behind its space
abbrev pub first_word : List ℕ → List ℕ
first_word text = before_first is_space text

abbrev pub behind_word : List ℕ → List ℕ
behind_word text = after_first is_space text

-- the place of a name; where it is not there, the one behind the last
abbrev pub place_in : List (List ℕ) → List ℕ → ℕ
place_in names name = unwrap_or (number_in names name) (length names)

-- the number that a word writes, or 0
abbrev pub told_number : List ℕ → ℕ
told_number text = unwrap_or (number_of text) 0

-- the moment that a word writes, or 1970-01-01 00:00 UTC
abbrev pub told_moment : List ℕ → ℤ
told_moment text = unwrap_or (moment_of text) (pos 0)

-- the side of a quote that a word writes, or no price
abbrev pub told_side : List ℕ → Option ℕ
told_side text = unwrap_or (price_of text) None

-- ---- commands

-- the fields that bytes spell, or none
unfoldable pub fields_of : List ℕ → List Field
fields_of bytes = if nat_le (length bytes) MAX_FRAME_BYTES then result_unwrap_or (split bytes) [] else []

-- the bytes that a text stands for, or none
abbrev pub told_bytes : List ℕ → List ℕ
told_bytes text = unwrap_or (text_of text) []

-- the fields that a text stands for, or none
abbrev pub told_fields : List ℕ → List Field
told_fields text = fields_of (told_bytes text)

-- MARKET BID OFFER
unfoldable pub told_quote : Config → List ℕ → Command
told_quote config text =
    Quote (place_in config.markets (first_word text)) (told_side (first_word (behind_word text))) (told_side (behind_word (behind_word text)))

-- MEMBER FIELDS, of a message of this type
unfoldable pub told_request : Config → MessageType → List ℕ → Command
told_request config kind text =
    command_of kind (place_in config.members (first_word text)) (told_fields (behind_word text))

-- COMMAND
unfoldable pub told_command : Config → List ℕ → Command
told_command config text =
    if slice_index text 0 == 81 then told_quote config (behind_word text)
    else told_request config (type_of (slice_index text 0)) (behind_word text)

-- ---- lines

-- S SYMBOL EVENTS REPORTS
unfoldable pub told_counts : List ℕ → Counts
told_counts text =
    let events = behind_word (behind_word text) in
    record { events = told_number (first_word events); reports = told_number (behind_word events) }

-- NUMBER FEED MOMENT COMMAND
unfoldable pub told_words : Config → List ℕ → Event
told_words config text =
    let feed = behind_word text in
    let moment = behind_word feed in
    record {
      number = told_number (first_word text);
      feed = told_number (first_word feed);
      moment = told_moment (first_word moment);
      command = told_command config (behind_word moment);
    }

-- J SYMBOL NUMBER FEED MOMENT COMMAND
abbrev pub told_event : Config → List ℕ → Event
told_event config text = told_words config (behind_word (behind_word text))
