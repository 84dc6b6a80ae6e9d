-- What a read of a connection may answer.
use Rattle.std.specs.Prelude.{◌≤◌, ℕ, List, length}
use Rattle.ports.specs.declared.ports.Came.{Came}
use Rattle.ports.specs.declared.ports.Came.TheVariants.{Bytes, Nothing, End}

-- no more bytes than the room has
abbrev pub IsWithin : Came → List ℕ → Type 0
IsWithin (Bytes count) room = count ≤ length room
IsWithin Nothing room = Unit {0}
IsWithin End room = Unit {0}
