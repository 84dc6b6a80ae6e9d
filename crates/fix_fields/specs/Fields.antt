-- The fields of a message.
use Rattle.std.specs.Prelude.{◌≡◌, ℕ, zero, suc, ◌+◌, ◌-◌, nat_eq, ◌==◌, Bool, ◌&&◌, ◌||◌, if◌then◌else◌, List, [], ◌∷◌, ◌++◌, length, take, drop, slice_index, codes, Option, Some, None, is_none, option_map, Result, Ok, Err}
use Rattle.std.specs.List.{position, starts_with}
use Rattle.std.specs.Option.{ok_or}
use Rattle.std.specs.declared.vec.Vec.{Vec}
use Rattle.std.specs.declared.alloc.Global.{Global}
use Rattle.fix_fields.specs.declared.field.Field.{Field}
use Rattle.fix_fields.specs.declared.field.FieldFault.{FieldFault}
use Rattle.fix_fields.specs.declared.field.FieldFault.TheVariants.{NoEquals, BadTag, NoEnd, DataShort, NoMemory}
use Rattle.fix_fields.specs.declared.splitting.Due.{Due}
use Rattle.fix_fields.specs.Forms.{tag_of, number_of}

-- a step that may fail, and what follows it
infixl 10 ◌>>=◌
abbrev pub ◌>>=◌ : {A B : Type 0} → Result A FieldFault → (A → Result B FieldFault) → Result B FieldFault
(Ok x) >>= f = f x
(Err fault) >>= f = Err fault

abbrev pub is_end : ℕ → Bool
is_end byte = byte == 1

abbrev pub is_equals : ℕ → Bool
is_equals byte = byte == 61

-- whether a tag is that of a length of data
abbrev pub is_length : ℕ → Bool
is_length tag = (tag == 95) || (tag == 354)

-- the data that must follow a field: that of 95 in 96, that of 354 in 355
unfoldable pub data_behind : ℕ → List ℕ → Option Due
data_behind tag bytes =
    if is_length tag then option_map (λ size. record { tag = tag + 1; size = size }) (number_of bytes) else None

-- a field at the front of bytes, and how many of them it takes
pub record Cut : Type 0 where
  pub field : Field
  pub size : ℕ

-- the tag of the data and `=`
abbrev pub data_front : ℕ → List ℕ
data_front tag = if tag == 96 then codes "96=" else codes "355="

-- a field whose value ends at the first end; the place is where it begins
unfoldable pub plain_cut : ℕ → List ℕ → Result Cut FieldFault
plain_cut at rest =
    ok_or (position is_end rest) (NoEnd at) >>= λ end.
    let line = take end rest in
    ok_or (position is_equals line) (NoEquals at) >>= λ equals.
    ok_or (tag_of (take equals line)) (BadTag at) >>= λ tag.
    let bytes = drop (equals + 1) line in
    if is_length tag && is_none (number_of bytes) then Err (DataShort at)
    else Ok (record { field = record { tag = tag; bytes = bytes }; size = end + 1 })

-- a field of data, whose value has the length that was given
unfoldable pub data_cut : ℕ → Due → List ℕ → Result Cut FieldFault
data_cut at due rest =
    let front = data_front due.tag in
    if starts_with nat_eq rest front && (slice_index rest (length front + due.size) == 1)
    then Ok (record {
      field = record { tag = due.tag; bytes = take due.size (drop (length front) rest) };
      size = length front + due.size + 1;
    })
    else Err (DataShort at)

-- the next field
abbrev pub cut_at : ℕ → Option Due → List ℕ → Result Cut FieldFault
cut_at at None rest = plain_cut at rest
cut_at at (Some due) rest = data_cut at due rest

-- a field put before fields
abbrev pub with_first : Field → Result (List Field) FieldFault → Result (List Field) FieldFault
with_first field rest = rest >>= λ fields. Ok (field ∷ fields)

-- fields put before fields
abbrev pub with_front : List Field → Result (List Field) FieldFault → Result (List Field) FieldFault
with_front front rest = rest >>= λ fields. Ok (front ++ fields)

-- the fields of the rest of so many bytes; the first number only bounds the recursion, and is above the number of bytes left,
-- so that its end at zero is never reached
abbrev pub split_from : ℕ → ℕ → Option Due → List ℕ → Result (List Field) FieldFault
split_from zero total due rest = Err NoMemory
split_from (suc fuel) total None [] = Ok []
split_from (suc fuel) total due rest =
    cut_at (total - length rest) due rest >>= λ cut.
    with_first cut.field (split_from fuel total (data_behind cut.field.tag cut.field.bytes) (drop cut.size rest))

-- the fields that bytes are split into, or the first fault and its place
unfoldable pub split : List ℕ → Result (List Field) FieldFault
split bytes = split_from (suc (length bytes)) (length bytes) None bytes

-- an answer is a fault only where the definition has that fault, or memory ran out
abbrev pub Fails : {A : Type 0} → FieldFault → Result A FieldFault → Type 0
Fails NoMemory meant = Unit {0}
Fails fault meant = meant ≡ Err fault

-- a function answers as it is meant, unless memory ran out
abbrev pub CutsAs : Result (Field × ℕ) FieldFault → Result Cut FieldFault → Type 0
CutsAs (Ok found) meant = meant ≡ Ok (record { field = found.0; size = found.1 })
CutsAs (Err fault) meant = Fails fault meant

abbrev pub SplitsAs : Result (Vec Field Global) FieldFault → Result (List Field) FieldFault → Type 0
SplitsAs (Ok found) meant = meant ≡ Ok found.items
SplitsAs (Err fault) meant = Fails fault meant
