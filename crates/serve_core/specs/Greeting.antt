-- Whose a connection is: its first frame that splits into fields names the member.
use Rattle.std.specs.Prelude.{◌≡◌, ◌<◌, ◌++◌, ℕ, Bool, List, [], ◌∷◌, Option, Some, None, Result, Ok, Err, if◌then◌else◌, is_none}
use Rattle.fix_fields.specs.declared.field.Field.{Field}
use Rattle.fix_fields.specs.declared.field.FieldFault.{FieldFault}
use Rattle.fix_fields.specs.Fields.{split}
use Rattle.fix_frames.specs.Reading.{reading_of}
use Rattle.session_core.specs.declared.state.EndCause.TheVariants.{NoNumber, WrongName, TooLong}
use Rattle.fix_fields.specs.Content.{content_of}
use Rattle.session_core.specs.Lookup.{message_number, value_of}
use Rattle.fix_write.specs.declared.tags.TheConstants.{SENDER_COMP_ID}
use Rattle.venue_words.specs.declared.config.Config.{Config}
use Rattle.quote_intake.specs.Quote.{number_in}
use Rattle.serve_core.specs.declared.greeting.Greeting.{Greeting}
use Rattle.serve_core.specs.declared.greeting.Greeting.TheVariants.{Unnamed, Member, Refused}

-- a frame that names no member: it has no number, or a wrong name
abbrev pub stranger : List Field → Greeting
stranger fields = if is_none (message_number fields) then Refused NoNumber else Refused WrongName

abbrev pub of_member : Option ℕ → Greeting → Greeting
of_member (Some member) other = Member member
of_member None other = other

abbrev pub by_name : Config → Option (List ℕ) → Greeting → Greeting
by_name config (Some name) other = of_member (number_in config.members name) other
by_name config None other = other

-- the first SenderCompID of these fields is a member's name
abbrev pub greeted_by : Config → List Field → Greeting
greeted_by config fields = by_name config (value_of SENDER_COMP_ID fields) (stranger fields)

-- where a frame splits into fields they say whose the connection is, else the frames behind it
abbrev pub by_fields : Config → Result (List Field) FieldFault → Greeting → Greeting
by_fields config (Ok fields) rest = greeted_by config fields
by_fields config (Err fault) rest = rest

abbrev pub greeted_in : Config → Bool → List (List ℕ) → Greeting
greeted_in config too_long [] = if too_long then Refused TooLong else Unnamed
greeted_in config too_long (frame ∷ frames) = by_fields config (split (content_of frame)) (greeted_in config too_long frames)

-- what all bytes of a connection so far say
abbrev pub greeting_of : Config → List ℕ → Greeting
greeting_of config bytes = greeted_in config (reading_of bytes).too_long (reading_of bytes).frames

-- whatever follows, these bytes say the same with it as those
abbrev pub SayTheSame : Config → List ℕ → List ℕ → Type 0
SayTheSame config bytes others = (more : List ℕ) → greeting_of config (bytes ++ more) ≡ greeting_of config (others ++ more)

-- what a frame says of whose a connection is, or that it says nothing
abbrev pub IsSaidBy : Config → List ℕ → Option Greeting → Type 0
IsSaidBy config frame None = (rest : Greeting) → by_fields config (split (content_of frame)) rest ≡ rest
IsSaidBy config frame (Some said) = (rest : Greeting) → by_fields config (split (content_of frame)) rest ≡ said

-- a member who is named is one of so many
abbrev pub IsAmong : ℕ → Greeting → Type 0
IsAmong members (Member member) = member < members
IsAmong members Unnamed = Unit {0}
IsAmong members (Refused cause) = Unit {0}
