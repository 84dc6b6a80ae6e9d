-- What stands at a place of a stream.
use Rattle.std.specs.Prelude.{ℕ, ◌+◌, ◌-◌, ◌*◌, ◌%◌, ◌^◌, ◌<◌, ◌≤◌, nat_lt, nat_eq, ◌==◌, Bool, ◌&&◌, not, if◌then◌else◌, List, [], ◌∷◌, ◌++◌, length, take, drop, slice_index, sum, codes}
use Rattle.std.specs.List.{starts_with}
use Rattle.std.specs.Char.{is_ascii_digit}
use Rattle.venue_words.specs.declared.limits.TheConstants.{MAX_FRAME_BYTES, SOH}
use Rattle.fix_write.specs.Digits.{three_digits}
use Rattle.fix_frames.specs.declared.place.Place.{Place}
use Rattle.fix_frames.specs.declared.place.Place.TheVariants.{Passed, Unfinished, Long, Whole}
use Rattle.fix_frames.specs.declared.place.BodyLength.{BodyLength}
use Rattle.fix_frames.specs.declared.place.BodyLength.TheVariants.{Bad, Partial, Declared}

-- behind so many digits of such a value: up to 5 digits in all, at least one, and SOH
abbrev pub length_after : ℕ → ℕ → List ℕ → BodyLength
length_after digits value [] = Partial
length_after digits value (byte ∷ bytes) =
    if not (is_ascii_digit byte) then (if (byte == SOH) && nat_lt 0 digits then Declared digits value else Bad)
    else (if digits == 5 then Bad else length_after (digits + 1) (value * 10 + (byte - 48)) bytes)

-- BodyLength: `9=`, 1 to 5 digits and SOH; bytes that end inside that form are a part of it
unfoldable pub body_length : List ℕ → BodyLength
body_length bytes =
    if length bytes == 0 then Partial
    else (if not (slice_index bytes 0 == 57) then Bad
    else (if length bytes == 1 then Partial
    else (if not (slice_index bytes 1 == 61) then Bad else length_after 0 0 (drop 2 bytes))))

-- at most 5 digits
abbrev pub IsSmall : BodyLength → Type 0
IsSmall Bad = Unit {0}
IsSmall Partial = Unit {0}
IsSmall (Declared digits value) = (digits ≤ 5) × (value < 10 ^ 5)

-- `8=FIXT.1.1` and SOH
abbrev pub begin_string : List ℕ
begin_string = codes "8=FIXT.1.1" ++ SOH ∷ []

abbrev pub begins : List ℕ → Bool
begins bytes = starts_with nat_eq bytes begin_string

-- whether CheckSum stands behind so many bytes: `10=`, the sum of these bytes modulo 256 in three digits, and SOH
unfoldable pub has_check_sum : ℕ → List ℕ → Bool
has_check_sum many bytes =
    starts_with nat_eq (drop many bytes) (codes "10=")
    && starts_with nat_eq (drop (many + 3) bytes) (three_digits (sum (take many bytes) % 256) ++ SOH ∷ [])

-- whether bytes with so many before the content and so many in it are a frame: the content begins with `35=` and ends with
-- SOH, and CheckSum stands behind it
unfoldable pub is_frame : ℕ → ℕ → List ℕ → Bool
is_frame front size bytes =
    starts_with nat_eq (drop front bytes) (codes "35=")
    && ((slice_index bytes (front + size - 1) == SOH)
    && has_check_sum (front + size) bytes)

-- where BeginString stands
unfoldable pub judged : BodyLength → List ℕ → Place
judged Bad bytes = Passed
judged Partial bytes = Unfinished
judged (Declared digits value) bytes =
    let size = 21 + digits + value in
    if nat_lt MAX_FRAME_BYTES size then Long
    else (if nat_lt (length bytes) size then Unfinished
    else (if is_frame (14 + digits) value (take size bytes) then Whole size (14 + digits) else Passed))

-- what stands at the front of bytes
unfoldable pub place_at : List ℕ → Place
place_at bytes = if begins bytes then judged (body_length (drop 11 bytes)) bytes else Passed
