-- Bytes as text on one line, and the bytes that a text stands for.
use Rattle.std.specs.Prelude.{ℕ, ◌+◌, ◌-◌, ◌*◌, ◌/◌, ◌%◌, nat_le, nat_lt, ◌==◌, Bool, ◌&&◌, ◌||◌, not, if◌then◌else◌, List, [], ◌∷◌, Option, Some, None, option_map}
use Rattle.std.specs.Option.{option_and_then}
use Rattle.std.specs.List.{flat_map}

-- an upper-case hexadecimal digit
abbrev pub hexadecimal : ℕ → ℕ
hexadecimal n = if nat_lt n 10 then 48 + n else 55 + n

-- whether a byte stands for itself: from 0x20 to 0x7E, but neither '|' nor '\'
abbrev pub is_plain : ℕ → Bool
is_plain byte = nat_le 32 byte && (nat_le byte 126 && (not (byte == 124) && not (byte == 92)))

-- whether a byte is plain or this other one
abbrev pub is_plain_or : ℕ → ℕ → Bool
is_plain_or other byte = byte == other || is_plain byte

-- a byte, or another in the place of this one
abbrev pub replaced : ℕ → ℕ → ℕ → ℕ
replaced old new byte = if byte == old then new else byte

-- SOH as '|', a plain byte as itself, any other byte as '\HH'
unfoldable pub escaped : ℕ → List ℕ
escaped byte = if byte == 1 then 124 ∷ [] else (if is_plain byte then byte ∷ [] else 92 ∷ hexadecimal (byte / 16) ∷ hexadecimal (byte % 16) ∷ [])

-- the text of bytes
unfoldable pub escape_text : List ℕ → List ℕ
escape_text bytes = flat_map escaped bytes

-- the value of an upper-case hexadecimal digit
unfoldable pub hexadecimal_value : ℕ → Option ℕ
hexadecimal_value digit =
    if nat_le 48 digit && nat_le digit 57 then Some (digit - 48)
    else if nat_le 65 digit && nat_le digit 70 then Some (digit - 55) else None

-- the byte that a character other than '\' stands for: '|' for SOH, and a plain byte for itself
unfoldable pub lone_byte : ℕ → Option ℕ
lone_byte character = if character == 124 then Some 1 else if is_plain character then Some character else None

-- the byte of '\HH'
unfoldable pub paired_byte : ℕ → ℕ → Option ℕ
paired_byte high low = option_and_then (λ high. option_map (λ low. high * 16 + low) (hexadecimal_value low)) (hexadecimal_value high)

-- a byte before others, where all of them are there
abbrev pub before_bytes : Option ℕ → Option (List ℕ) → Option (List ℕ)
before_bytes None bytes = None
before_bytes (Some byte) bytes = option_map (λ bytes. byte ∷ bytes) bytes

-- the bytes that a text stands for, or none where it is no text
unfoldable mutual
  pub text_of : List ℕ → Option (List ℕ)
  text_of [] = Some []
  text_of (character ∷ text) =
      if character == 92 then behind_backslash text else before_bytes (lone_byte character) (text_of text)

  pub behind_backslash : List ℕ → Option (List ℕ)
  behind_backslash [] = None
  behind_backslash (high ∷ text) = behind_digit high text

  pub behind_digit : ℕ → List ℕ → Option (List ℕ)
  behind_digit high [] = None
  behind_digit high (low ∷ text) = before_bytes (paired_byte high low) (text_of text)
