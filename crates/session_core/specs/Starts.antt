-- Where a look for a tag among the fields of a message begins: places by the remainders of tags.
use Rattle.std.specs.Prelude.{◌≡◌, ℕ, ◌≤◌, ◌%◌, List, get_or, take, None}
use Rattle.fix_fields.specs.declared.field.Field.{Field}
use Rattle.session_core.specs.Lookup.{value_of}

-- the place of a tag's remainder
abbrev pub start_of : List ℕ → ℕ → ℕ
start_of starts tag = get_or starts (tag % 64) 0

-- no field before the place of its remainder has a tag
abbrev pub AreInTime : List ℕ → List Field → Type 0
AreInTime starts fields = (tag count : ℕ) → count ≤ start_of starts tag → value_of tag (take count fields) ≡ None
