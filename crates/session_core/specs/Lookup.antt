-- What stands among the fields of a message. Where a tag stands more than once, its first field decides.
use Rattle.std.specs.Prelude.{ℕ, ◌==◌, Bool, false, if◌then◌else◌, List, [], ◌∷◌, Option, Some, None, option_and_then, option_map, unwrap_or, bytes_eq, codes}
use Rattle.std.specs.List.{find}
use Rattle.std.specs.Option.{option_map_or}
use Rattle.fix_fields.specs.declared.field.Field.{Field}
use Rattle.fix_fields.specs.Forms.{number_of}
use Rattle.fix_write.specs.declared.tags.TheConstants.{MSG_TYPE, MSG_SEQ_NUM}
use Rattle.fix_write.specs.declared.message_type.MessageType.{MessageType}
use Rattle.fix_write.specs.MessageTypes.{type_of}

-- the value of the first field of a tag
unfoldable pub value_of : ℕ → List Field → Option (List ℕ)
value_of tag fields = option_map (λ field. field.bytes) (find (λ field. field.tag == tag) fields)

-- the value of a tag as a number
unfoldable pub number_in : ℕ → List Field → Option ℕ
number_in tag fields = option_and_then number_of (value_of tag fields)

-- the value of a tag as a number, or 0
abbrev pub number_or_zero : ℕ → List Field → ℕ
number_or_zero tag fields = unwrap_or (number_in tag fields) 0

-- the value of a tag, or nothing
unfoldable pub text_in : ℕ → List Field → List ℕ
text_in tag fields = unwrap_or (value_of tag fields) []

-- whether the value of a tag is this one
unfoldable pub is_value : ℕ → List ℕ → List Field → Bool
is_value tag expected fields = option_map_or (λ bytes. bytes_eq bytes expected) (value_of tag fields) false

-- whether the value of a tag is Y
abbrev pub is_yes : ℕ → List Field → Bool
is_yes tag fields = is_value tag (codes "Y") fields

-- the only byte, or 0
abbrev pub single_byte : List ℕ → ℕ
single_byte [] = 0
single_byte (byte ∷ []) = byte
single_byte (byte ∷ other ∷ bytes) = 0

-- the message's type, by its byte where it has exactly one, and else by 0
unfoldable pub kind_of : List Field → MessageType
kind_of fields = type_of (option_map_or single_byte (value_of MSG_TYPE fields) 0)

-- a number that is not 0
abbrev pub positive : ℕ → Option ℕ
positive n = if n == 0 then None else Some n

-- the message's number, where it is from 1 to 999,999,999
unfoldable pub message_number : List Field → Option ℕ
message_number fields = option_and_then positive (number_in MSG_SEQ_NUM fields)
