-- What was put to the members, and what is due to their connections.
use Rattle.std.specs.Prelude.{◌≡◌, ℕ, ◌==◌, cond, List, [], ◌∷◌, ◌++◌}
use Rattle.ports.specs.declared.slots.State.{State}
use Rattle.ports.specs.declared.slots.State.TheVariants.{Free, Unnamed, Named as IsNamed}
use Rattle.ports.specs.declared.table.Table.{Table}
use Rattle.ports.specs.History.{Event, Opened, Named, Handed, Put, Ended, state_of, due}
use Rattle.ports.specs.Sound.{Sound}

abbrev pub put_after : Event → ℕ → List ℕ → List ℕ
put_after (Opened port) m before = before
put_after (Named port member) m before = before
put_after (Handed port bytes) m before = before
put_after (Put member bytes) m before = cond (member == m) (before ++ bytes) before
put_after (Ended port) m before = before

-- all bytes that were put to a member
abbrev pub all_put : List Event → ℕ → List ℕ
all_put [] m = []
all_put (event ∷ past) m = put_after event m (all_put past m)

-- an end of some bytes
abbrev pub IsBack : List ℕ → List ℕ → Type 0
IsBack back all = (before : List ℕ) × (before ++ back ≡ all)

-- a run of the bytes of one member
abbrev pub IsRun : List ℕ → (ℕ → List ℕ) → Type 0
IsRun run of = (member : ℕ) × (before : List ℕ) × (after : List ℕ) × (before ++ (run ++ after) ≡ of member)

-- to the connection of a member all is due that was put to him since it was named; to any other, a run of what was put to one member
abbrev pub IsDue : State → List ℕ → (ℕ → List ℕ) → Type 0
IsDue (IsNamed member) owed put = IsBack owed (put member)
IsDue Free owed put = IsRun owed put
IsDue Unnamed owed put = IsRun owed put

-- A table is as its history says, and what is due to each port is of one member.
pub record Joined (past : List Event) (table : Table) (came went : ℕ → List ℕ) : Type 0 where
  pub sound : Sound past table came went
  pub due : (p : ℕ) → IsDue (state_of past p) (due past p) (all_put past)
