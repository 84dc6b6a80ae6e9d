-- How a clock in memory is seen.
use Rattle.std.specs.Prelude.{ℕ, ℤ, List, Option, Some, None, ◌==◌, ◌-◌, ◌^◌, if◌then◌else◌}
use Rattle.io_edge.specs.declared.clocks.MemClock.{MemClock}
use Rattle.io_edge.specs.Clocks.{first_moments}

-- the moments that it gives
abbrev pub moments_of : MemClock → List ℤ
moments_of clock = clock.moments.items

-- how often it was asked; the count stays at its last value
abbrev pub times_asked : MemClock → ℕ
times_asked clock = clock.asked

-- the moments of a clock that was asked so often; at the last count it tells nothing
abbrev pub told_moments : List ℤ → ℕ → Option (List ℤ)
told_moments moments asked = if asked == 2 ^ 64 - 1 then None else Some (first_moments moments asked)
