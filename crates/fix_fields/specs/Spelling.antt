-- Which lists of fields there are, and how they are spelled.
use Rattle.std.specs.Prelude.{◌≡◌, ℕ, ◌<◌, true, false, List, [], ◌∷◌, ◌++◌, length, decimal, Option, Some, None, IsSome}
use Rattle.std.specs.List.{list_any, flat_map}
use Rattle.fix_fields.specs.declared.field.Field.{Field}
use Rattle.fix_fields.specs.declared.splitting.Due.{Due}
use Rattle.fix_fields.specs.Forms.{number_of}
use Rattle.fix_fields.specs.Fields.{is_end, is_length, data_behind}

-- the tag, `=`, the value and SOH
abbrev pub spelling : Field → List ℕ
spelling field = decimal field.tag ++ 61 ∷ (field.bytes ++ 1 ∷ [])

-- the spellings of fields, one behind the other
abbrev pub spellings : List Field → List ℕ
spellings fields = flat_map spelling fields

-- a field by itself: a tag of 1 to 5 digits, no SOH in the value, and a length of data is a number
pub record IsPlain (field : Field) : Type 0 where
  pub low : 0 < field.tag
  pub high : field.tag < 100000
  pub value : list_any is_end field.bytes ≡ false
  pub number : is_length field.tag ≡ true → IsSome (number_of field.bytes)

-- the data that must follow: the tag, and as many bytes of any kind
pub record IsData (due : Due) (field : Field) : Type 0 where
  pub tag : field.tag ≡ due.tag
  pub size : length field.bytes ≡ due.size

-- fields of which each that gives the length of data is followed by that data
abbrev pub AreFields : Option Due → List Field → Type 0
AreFields None [] = Unit {0}
AreFields (Some due) [] = ⊥
AreFields None (field ∷ fields) = IsPlain field × AreFields (data_behind field.tag field.bytes) fields
AreFields (Some due) (field ∷ fields) = IsData due field × AreFields (data_behind field.tag field.bytes) fields
