-- A tag that stands at the front of bytes, and the field that begins with it.
use Rattle.std.specs.Prelude.{◌≡◌, ◌<◌, ℕ, ◌+◌, true, ◌&&◌, if◌then◌else◌, List, length, take, slice_index, Some, is_none, Result, Ok, Err}
use Rattle.std.specs.List.{position, list_all}
use Rattle.std.specs.Char.{is_ascii_digit}
use Rattle.std.specs.Option.{ok_or}
use Rattle.fix_fields.specs.declared.field.FieldFault.{FieldFault}
use Rattle.fix_fields.specs.declared.field.FieldFault.TheVariants.{NoEnd, DataShort}
use Rattle.fix_fields.specs.Forms.{tag_of, number_of}
use Rattle.fix_fields.specs.Fields.{◌>>=◌, Cut, is_end, is_length}

-- digits that spell a tag stand before the place, and `=` stands there
pub record IsInFront (tag at : ℕ) (bytes : List ℕ) : Type 0 where
  pub spelled : tag_of (take at bytes) ≡ Some tag
  pub digits : list_all is_ascii_digit (take at bytes) ≡ true
  pub within : at < length bytes
  pub equals : slice_index bytes at ≡ 61

-- a field of a tag and a value that takes so many bytes; where it gives a length, that is a number
abbrev pub valued : ℕ → ℕ → List ℕ → ℕ → Result Cut FieldFault
valued at tag bytes size =
    if is_length tag && is_none (number_of bytes) then Err (DataShort at)
    else Ok (record { field = record { tag = tag; bytes = bytes }; size = size })

-- the field of a tag whose value begins the rest, up to its end; so many bytes stand before the value
unfoldable pub tagged_cut : ℕ → ℕ → ℕ → List ℕ → Result Cut FieldFault
tagged_cut at tag before rest =
    ok_or (position is_end rest) (NoEnd at) >>= λ end. valued at tag (take end rest) (before + end + 1)
