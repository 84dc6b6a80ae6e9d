-- What a sink is told of a script, up to the present place or to a status, and the steps that were counted by then.
use Rattle.std.specs.Prelude.{◌≡◌, ◌≤◌, ◌+◌, ℕ, List, [], ◌++◌, length, take, Option, Some, None, MatchOption}
use Rattle.std.specs.Io.KnownBytes.{Appends}
use Rattle.io_edge.specs.Grows.{AppendsPrefix}
use Rattle.script_text.specs.Lines.{cut}
use Rattle.script_text.specs.declared.fault.LineFault.{LineFault}
use Rattle.script_text.specs.declared.fault.LineFault.TheVariants as fault
use Rattle.replay_core.specs.Play.{Played, onto, stopped, script}
use Rattle.replay_core.specs.Statuses.{status_of}
use Rattle.replay_core.specs.declared.status.Status.{Status}
use Rattle.replay_core.specs.declared.status.Status.TheVariants.{Done, BadWords, BadLine, LimitLine, ReadFault, WriteFault, NoMemory}

-- the bytes that a sink tells, and the steps that were counted
pub record Seen : Type 0 where
  pub told : Option (List ℕ)
  pub steps : ℕ

abbrev pub seen : Option (List ℕ) → ℕ → Seen
seen told steps = record { told = told; steps = steps }

-- However the text goes on, what it makes is what was told between old and new, and then what it makes after; and no more
-- steps were counted than are allowed for that.
pub record Leads (old new : Seen) (before after : List ℕ → Played) : Type 0 where
  pub done : List ℕ
  pub grew : Appends old.told new.told done
  pub spent : ℕ
  pub counted : new.steps ≤ old.steps + spent
  pub goes : (more : List ℕ) → before more ≡ onto done spent (after more)

-- However the text goes on, what was told is the front of what it makes, and no more steps were counted than it may take.
pub record Begins (old new : Seen) (before : List ℕ → Played) : Type 0 where
  pub done : List ℕ
  pub grew : Appends old.told new.told done
  pub behind : List ℕ → List ℕ
  pub goes : (more : List ℕ) → (before more).text ≡ done ++ behind more
  pub counted : (more : List ℕ) → new.steps ≤ old.steps + (before more).steps

-- what was told by the time of an early end
abbrev pub Halts : Seen → Seen → (List ℕ → Played) → Status → Type 0
Halts old new before (BadLine line cause) = Leads old new before (λ _. stopped (fault.Bad line cause))
Halts old new before (LimitLine line which) = Leads old new before (λ _. stopped (fault.Limit line which))
Halts old new before WriteFault = Begins old new before
Halts old new before NoMemory = Begins old new before
Halts old new before _ = ⊥

-- The bytes that were given lead to this output and to these steps, and the rest is still there.
pub record GaveUp (bytes : List ℕ) (old new : Seen) (left : Option (List ℕ)) : Type 0 where
  pub given : List ℕ
  pub rest : List ℕ
  pub whole : bytes ≡ given ++ rest
  pub place : MatchOption left (given ≡ []) (λ l. l ≡ rest)
  pub grew : Appends old.told new.told (script given).text
  pub steps : new.steps ≤ old.steps + (script given).steps

-- The output of some first lines was put, and a beginning of that of the next line; and no more steps were counted than
-- these lines may take.
pub record StopsIn (bytes : List ℕ) (old new : Seen) : Type 0 where
  pub worked : List ℕ
  pub line : List ℕ
  pub rest : List ℕ
  pub whole : bytes ≡ (worked ++ line) ++ rest
  pub one : length (cut line).lines ≤ 1
  pub count : ℕ
  pub grew : Appends old.told new.told (take count (script (worked ++ line)).text)
  pub least : length (script worked).text ≤ count
  pub steps : new.steps ≤ old.steps + (script (worked ++ line)).steps
  pub part : AppendsPrefix old.told new.told (script bytes).text

-- what a script's bytes say of the status, and of what was told and what is left on the shelf
abbrev pub Outcome : List ℕ → Seen → Seen → Option (List ℕ) → Status → Type 0
Outcome bytes old new left Done = Appends old.told new.told (script bytes).text × ((script bytes).fault ≡ None)
Outcome bytes old new left (BadLine line cause) =
    Appends old.told new.told (script bytes).text × ((script bytes).fault ≡ Some (fault.Bad line cause))
Outcome bytes old new left (LimitLine line which) =
    Appends old.told new.told (script bytes).text × ((script bytes).fault ≡ Some (fault.Limit line which))
Outcome bytes old new left ReadFault = GaveUp bytes old new left
Outcome bytes old new left WriteFault = StopsIn bytes old new
Outcome bytes old new left NoMemory = StopsIn bytes old new
Outcome bytes old new left BadWords = ⊥

-- the same, and no more steps were counted than the script's events may take
pub record Ran (bytes : List ℕ) (old new : Seen) (left : Option (List ℕ)) (status : Status) : Type 0 where
  pub outcome : Outcome bytes old new left status
  pub steps : new.steps ≤ old.steps + (script bytes).steps

-- the status at the end of a script
abbrev pub ending : Option LineFault → Status
ending None = Done
ending (Some fault) = status_of fault
