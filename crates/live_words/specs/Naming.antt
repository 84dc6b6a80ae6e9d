-- Whose a connection is, by its first bytes.
use Rattle.std.specs.Prelude.{◌≡◌, ◌==◌, ◌<◌, ℕ, Bool, true, false, List, ◌∷◌, ◌++◌, length, take, min, Option, Some, None, option_map, position, bytes_eq, codes}
use Rattle.std.specs.List.{find}
use Rattle.std.specs.Option.{option_map_or}
use Rattle.venue_words.specs.declared.limits.TheConstants.{MAX_FRAME_BYTES, VENUE}
use Rattle.fix_fields.specs.declared.field.Field.{Field}
use Rattle.fix_fields.specs.Content.{content_of}
use Rattle.fix_fields.specs.Spelling.{AreFields, spellings}
use Rattle.fix_frames.specs.Streams.{next_from, gives}
use Rattle.live_words.specs.declared.naming.First.{First}
use Rattle.live_words.specs.declared.naming.First.TheVariants.{Frame, Waits, TooLong}

-- the value of the first field of a tag
abbrev pub value_of : ℕ → List Field → Option (List ℕ)
value_of tag fields = option_map (λ field. field.bytes) (find (λ field. field.tag == tag) fields)

-- whether the value of a tag is this one
abbrev pub is_value : ℕ → List ℕ → List Field → Bool
is_value tag expected fields = option_map_or (λ bytes. bytes_eq bytes expected) (value_of tag fields) false

-- how a frame begins, up to the digits of its length
abbrev pub opening : List ℕ
opening = codes "8=FIXT.1.1" ++ 1 ∷ codes "9="

-- bytes begin as a frame does, as far as they go
abbrev pub Opens : List ℕ → Type 0
Opens bytes = take (min (length bytes) 13) bytes ≡ take (min (length bytes) 13) opening

-- a frame may come of bytes: they begin as one does, and are fewer than the longest has
pub record MayBegin (bytes : List ℕ) : Type 0 where
  pub opens : Opens bytes
  pub few : length bytes < MAX_FRAME_BYTES

-- the first frame among some bytes, whatever follows
abbrev pub IsGiven : List ℕ → List ℕ → Type 0
IsGiven bytes frame = (before : ℕ) × ((more : List ℕ) → next_from (bytes ++ more) ≡ gives before frame)

-- a connection whose first bytes these are begins with this frame, whatever follows
abbrev pub IsFirstFrame : List ℕ → List ℕ → Type 0
IsFirstFrame early frame = (more : List ℕ) → next_from (early ++ more) ≡ gives 0 frame

abbrev pub IsFirst : List ℕ → First → Type 0
IsFirst bytes (Frame frame) = IsGiven bytes frame
IsFirst bytes Waits = Unit {0}
IsFirst bytes TooLong = Unit {0}

-- a Logon to the venue that a member sends
pub record IsLogon (fields : List Field) (names : List (List ℕ)) (member : ℕ) : Type 0 where
  pub logon : is_value 35 (codes "A") fields ≡ true
  -- SenderCompID is his name
  pub sender : position (λ name. is_value 49 name fields) names ≡ Some member
  pub venue : is_value 56 VENUE.now fields ≡ true

-- a frame with a Logon to the venue that a member sends
pub record IsLogonFrame (frame : List ℕ) (names : List (List ℕ)) (member : ℕ) : Type 0 where
  pub fields : List Field
  pub are : AreFields None fields
  pub spells : content_of frame ≡ spellings fields
  pub logon : IsLogon fields names member

-- the first frame of a connection is a Logon to the venue that this member sends
pub record IsClaim (early : List ℕ) (names : List (List ℕ)) (member : ℕ) : Type 0 where
  pub frame : List ℕ
  pub first : IsFirstFrame early frame
  pub logon : IsLogonFrame frame names member
