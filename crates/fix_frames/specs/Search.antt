-- What a search for the next frame finds.
use Rattle.std.specs.Prelude.{◌≡◌, ℕ, ◌+◌, ◌≤◌, ◌<◌, List, length}
use Rattle.fix_frames.specs.declared.place.Place.{Place}
use Rattle.fix_frames.specs.declared.place.Place.TheVariants.{Passed, Whole}
use Rattle.fix_frames.specs.Places.{place_at}

-- what was found at the front of bytes: with `Passed` there are too few for BeginString
abbrev pub IsFound : List ℕ → Place → Type 0
IsFound bytes Passed = length bytes < 11
IsFound bytes place = (11 ≤ length bytes) × (place_at bytes ≡ place)

-- a whole frame ends among so many bytes
abbrev pub EndsWithin : ℕ → ℕ → Place → Type 0
EndsWithin total at (Whole size front) = at + size ≤ total
EndsWithin total at place = Unit {0}
