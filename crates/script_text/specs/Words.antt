-- The forms of the words of a header.
use Rattle.std.specs.Prelude.{ℕ, ◌+◌, ◌&&◌, ◌||◌, ◌==◌, Bool, List, length, Option, Some, None, nat_lt, nat_le, option_and_then, if◌then◌else◌, codes, slice_index, drop, ℤ}
use Rattle.std.specs.List.{list_all}
use Rattle.std.specs.Str.{bytes_eq}
use Rattle.venue_words.specs.declared.limits.TheConstants.{MAX_EVENTS, MAX_NAME_BYTES}
use Rattle.quote_intake.specs.Price.{is_digit, digits_of}
use Rattle.fix_fields.specs.Forms.{moment_of}

unfoldable pub is_letter : ℕ → Bool
is_letter b = (nat_le 65 b && nat_le b 90) || (nat_le 97 b && nat_le b 122)

-- a letter, a digit, a point or an underscore
unfoldable pub is_name_byte : ℕ → Bool
is_name_byte b = is_letter b || (is_digit b || (b == 46 || b == 95))

-- bytes within the limit, at least one, the first of them a letter
unfoldable pub is_name : List ℕ → Bool
is_name text = nat_lt 0 (length text) && (nat_le (length text) MAX_NAME_BYTES
    && (is_letter (slice_index text 0) && list_all is_name_byte text))

-- a number from 1 to 2,097,152, without a leading zero
unfoldable pub limit_of : List ℕ → Option ℕ
limit_of text =
    if (length text == 0) || (nat_lt 7 (length text) || (slice_index text 0 == 48)) then None
    else option_and_then (λ limit. if nat_le limit MAX_EVENTS then Some limit else None) (digits_of text)

-- the units of a tick
unfoldable pub tick_of : List ℕ → Option ℕ
tick_of text = if bytes_eq text (codes "0.01") then Some 2
    else if bytes_eq text (codes "0.05") then Some 10 else None

-- a moment with just three places behind the second, in milliseconds since 1970-01-01 00:00 UTC
unfoldable pub script_moment : List ℕ → Option ℤ
script_moment text = if length text == 21 then moment_of text else None

-- what stands behind a word and its space in a line
abbrev pub behind_word : List ℕ → List ℕ → List ℕ
behind_word word line = drop (length word + 1) line
