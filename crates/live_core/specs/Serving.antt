-- A day from the opening of its journal to its end.
use Rattle.std.specs.Prelude.{◌≡◌, ◌⊎◌, ℕ, true, false, List, [], ◌∷◌, ◌++◌}
use Rattle.day_journal.specs.Disk.{Told, LeavesOnly}
use Rattle.day_journal.specs.Log.{Reading, reading, intact, size_of}
use Rattle.day_journal.specs.Refusals.{ReadsAsOne}
use Rattle.day_journal.specs.declared.refusal.OpenRefusal.{OpenRefusal}
use Rattle.day_journal.specs.declared.refusal.OpenRefusal.TheVariants as opening
use Rattle.live_core.specs.Lines.{Yields, kept, output, AreNotTaken, IsFrontOf}
use Rattle.live_core.specs.Live.{Stands, HasFront}
use Rattle.live_core.specs.declared.running.LiveEnd.TheVariants as live
use Rattle.live_core.specs.declared.serving.DayEnd.{DayEnd}
use Rattle.live_core.specs.declared.serving.DayEnd.TheVariants.{Lived, Damaged, OtherHead, BadHead, Refused, Unkept, DiskFault, NoMemory, Halted}

-- the lines on which a day goes on: those that the journal had, and those of the head in a new one
abbrev pub started : List (List ℕ) → List (List ℕ) → List (List ℕ)
started [] head = head
started (line ∷ lines) head = line ∷ lines

-- a file as it could have been left before the day, or with these lines alone
abbrev pub IsEarlier : Told → List (List ℕ) → List ℕ → Type 0
IsEarlier old lines c = ReadsAsOne old.may_leave c ⊎ (reading c ≡ intact lines)

-- a file as it could have been left before the day, or with these lines and the first of some more
abbrev pub IsLater : Told → List (List ℕ) → List (List ℕ) → List ℕ → Type 0
IsLater old lines more c = ReadsAsOne old.may_leave c ⊎ HasFront lines more c

-- A day was lived, after a journal of the lines `had`.
pub record Lives (yields : Yields) (head brought_old brought_new : List (List ℕ)) (told_old told_new : List ℕ) (old new : Told) : Type 0 where
  pub had : List (List ℕ)
  pub found : reading old.seen ≡ intact had
  -- its journal begins with the head
  pub begins : IsFrontOf head (started had head)
  -- and each of its lines was taken after those before it
  pub taken : kept yields [] (started had head) ≡ started had head
  -- what was brought since
  pub asked : List (List ℕ)
  pub brought : brought_new ≡ brought_old ++ asked
  -- a beginning of what these lines yield was put, with no line left out and none twice
  pub put : List ℕ
  pub rest : List ℕ
  pub told : told_new ≡ told_old ++ put
  pub part : put ++ rest ≡ output yields (started had head) asked
  -- A crash at any moment leaves a journal from before, or the lines that it began with and the first of those that were taken.
  pub crash : LeavesOnly old new (IsLater old (started had head) (kept yields (started had head) asked))
  -- And all that was put is what the lines yield that a crash leaves now, or a beginning of it.
  pub safe : (c : List ℕ) → new.may_leave c → (front : List (List ℕ)) × (more : List ℕ) × (reading c ≡ intact (started had head ++ front))
      × IsFrontOf front (kept yields (started had head) asked) × (put ++ more ≡ output yields (started had head) front)

-- why a day did not begin, over a journal that reads so
abbrev pub Cause : Yields → List (List ℕ) → Reading → DayEnd → Type 0
Cause yields head found (Damaged at) = (found.damaged ≡ true) × (at ≡ size_of found.lines)
Cause yields head found OtherHead = (found.damaged ≡ false) × (IsFrontOf head found.lines → ⊥)
Cause yields head found BadHead = (found ≡ intact []) × (kept yields [] head ≡ head → ⊥)
Cause yields head found (Refused line) = (found.damaged ≡ false) × (kept yields [] found.lines ≡ found.lines → ⊥)
Cause yields head found (Unkept end) = found ≡ intact []
Cause yields head found (Lived end) = Unit {0}
Cause yields head found DiskFault = Unit {0}
Cause yields head found NoMemory = Unit {0}
Cause yields head found Halted = (found.damaged ≡ false) × AreNotTaken yields [] (started found.lines head)

-- No round began.
pub record LivesNot (yields : Yields) (head brought_old brought_new : List (List ℕ)) (told_old told_new : List ℕ) (old new : Told) (end : DayEnd) : Type 0 where
  pub brought : brought_new ≡ brought_old
  pub told : told_new ≡ told_old
  pub cause : Cause yields head (reading old.seen) end
  pub crash : LeavesOnly old new (IsEarlier old head)

abbrev pub Served : Yields → List (List ℕ) → List (List ℕ) → List (List ℕ) → List ℕ → List ℕ → Told → Told → DayEnd → Type 0
Served yields head brought_old brought_new told_old told_new old new (Lived end) = Lives yields head brought_old brought_new told_old told_new old new
Served yields head brought_old brought_new told_old told_new old new other = LivesNot yields head brought_old brought_new told_old told_new old new other

-- why a journal was not opened
abbrev pub IsUnopened : Reading → DayEnd → Type 0
IsUnopened found (Damaged at) = (found.damaged ≡ true) × (at ≡ size_of found.lines)
IsUnopened found DiskFault = Unit {0}
IsUnopened found NoMemory = Unit {0}
IsUnopened found _ = ⊥

-- why a machine did not take the lines of a day's beginning
abbrev pub IsUnstarted : Yields → List (List ℕ) → List (List ℕ) → DayEnd → Type 0
IsUnstarted yields head had OtherHead = IsFrontOf head had → ⊥
IsUnstarted yields head had BadHead = (had ≡ []) × (kept yields [] head ≡ head → ⊥)
IsUnstarted yields head had (Refused line) = kept yields [] had ≡ had → ⊥
IsUnstarted yields head had (Unkept end) = had ≡ []
IsUnstarted yields head had NoMemory = Unit {0}
IsUnstarted yields head had Halted = AreNotTaken yields [] (started had head)
IsUnstarted yields head had _ = ⊥

abbrev pub unopened : OpenRefusal → DayEnd
unopened opening.DiskFault = DiskFault
unopened (opening.Damaged at) = Damaged at
unopened opening.NoMemory = NoMemory

-- a call of the disk failed
abbrev pub IsDiskFault : DayEnd → Type 0
IsDiskFault DiskFault = Unit {0}
IsDiskFault (Lived end) = end ≡ live.DiskFault
IsDiskFault (Unkept end) = end ≡ live.DiskFault
IsDiskFault _ = ⊥

-- a call of the edge failed
abbrev pub IsEdgeFault : DayEnd → Type 0
IsEdgeFault (Lived end) = (end ≡ live.PutFault) ⊎ (end ≡ live.EdgeFault)
IsEdgeFault (Unkept end) = (end ≡ live.PutFault) ⊎ (end ≡ live.EdgeFault)
IsEdgeFault _ = ⊥

-- the day ended as it was asked to
abbrev pub IsStopped : DayEnd → Type 0
IsStopped (Lived end) = end ≡ live.Stopped
IsStopped _ = ⊥

-- All that was brought was worked, all that was taken is in the journal, and all that it yields was put.
pub record LivesWhole (yields : Yields) (head brought_old brought_new : List (List ℕ)) (told_old told_new : List ℕ) (old new : Told) : Type 0 where
  pub had : List (List ℕ)
  pub found : reading old.seen ≡ intact had
  pub asked : List (List ℕ)
  pub brought : brought_new ≡ brought_old ++ asked
  pub told : told_new ≡ told_old ++ output yields (started had head) asked
  pub stands : Stands (started had head ++ kept yields (started had head) asked) new
