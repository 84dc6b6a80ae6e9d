-- When a member has been slow for too long.
use Rattle.std.specs.Prelude.{ℕ, ◌-◌, ◌&&◌, Bool, false, Option, None, Some, nat_lt, length}
use Rattle.ports.specs.declared.slots.State.{State}
use Rattle.ports.specs.declared.slots.State.TheVariants.{Free, Unnamed, Named}
use Rattle.ports.specs.declared.table.Table.{Table}
use Rattle.ports.specs.Slots.{state_at, waits_of}

abbrev pub backlog_of : Table → State → ℕ
backlog_of table (Named member) = length (waits_of table member)
backlog_of table Free = 0
backlog_of table Unnamed = 0

-- how many bytes wait for the member of a port
abbrev pub backlog_in : Table → ℕ → ℕ
backlog_in table port = backlog_of table (state_at table port)

-- more than 4 MiB wait for a member, and did so for more than 30 seconds, since the moment that was noted
abbrev pub is_late : ℕ → Option (Option ℕ) → ℕ → Bool
is_late backlog (Some (Some since)) now = nat_lt 4194304 backlog && nat_lt 30000 (now - since)
is_late backlog (Some None) now = false
is_late backlog None now = false
