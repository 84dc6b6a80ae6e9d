-- Copies of ids that take no memory.
use Rattle.std.specs.Prelude.{◌≡◌, ℕ, ◌≤◌, Bool, if◌then◌else◌, []}
use Rattle.std.specs.Global.{Box, Vec}
use Rattle.std.specs.Vec.{vec_capacity, vec_len}
use Rattle.venue_words.specs.declared.id.TheConstants.{SHORT_ID_BYTES}
use Rattle.venue_words.specs.declared.limits.TheConstants.{MAX_ID_BYTES}

-- so many copies can be made, of ids of up to so many bytes
pub record IdRoom : Type 0 where
  pub count : ℕ
  pub longest : ℕ

-- the most bytes of an id, where long ones are allowed or not
abbrev pub longest_id : Bool → ℕ
longest_id long = if long then MAX_ID_BYTES else SHORT_ID_BYTES

-- an empty buffer with room for an id
pub record IsIdBuffer (buffer : Box (Vec ℕ)) : Type 0 where
  pub items : buffer.value.items ≡ []
  pub empty : vec_len buffer.value ≡ 0
  pub room : MAX_ID_BYTES ≤ vec_capacity buffer.value
