-- A journal in the middle of a day.
use Rattle.std.specs.Prelude.{◌≡◌, ◌≢◌, ◌<◌, ◌+◌, ◌-◌, ℕ, Bool, true, false, List, ◌∷◌, [], ◌++◌, length, slice_get, Some}
use Rattle.day_journal.specs.Disk.{Told, Only, LeavesOnly}
use Rattle.day_journal.specs.Log.{reading, intact, IsBeforeOrAfter}
use Rattle.day_journal.specs.LogView.{LogView}
use Rattle.day_core.specs.Agreement.{Agrees}
use Rattle.day_core.specs.Crashes.{Follows, Stored}
use Rattle.day_core.specs.declared.status.DayStatus.{DayStatus}
use Rattle.day_core.specs.declared.status.DayStatus.TheVariants.{BadLine, LimitLine, Differs, DiskFault, WriteFault, NoMemory}

-- whether the script's line of a number is behind all that a journal had, or is the journal's
abbrev pub IsNew : List (List ℕ) → ℕ → List ℕ → Bool → Type 0
IsNew journal number text true = length journal < number
IsNew journal number text false = slice_get journal (number - 1) ≡ Some text

-- the journal had another line in its place
abbrev pub IsOther : List (List ℕ) → ℕ → List ℕ → Type 0
IsOther journal number text = (other : List ℕ) × (slice_get journal (number - 1) ≡ Some other) × (other ≢ text)

-- a line was appended to a log
pub record AppendsLine {D : Type 0} (told : D → Told) (old new : LogView D) (line : List ℕ) : Type 0 where
  pub unspent : new.spent ≡ false
  pub size : new.size ≡ old.size + 5 + length line
  pub honest : (told new.disk).honest ≡ (told old.disk).honest
  pub lines : (told old.disk).honest ≡ true
      → reading (told new.disk).seen ≡ intact ((reading (told old.disk).seen).lines ++ line ∷ [])
  pub durable : (told old.disk).honest ≡ true → Only (told new.disk).seen (told new.disk).may_leave
  pub crash : (told old.disk).honest ≡ true
      → LeavesOnly (told old.disk) (told new.disk) (IsBeforeOrAfter (reading (told old.disk).seen).lines line)

-- a line may not have been appended
pub record Fails {D : Type 0} (told : D → Told) (old new : LogView D) (line : List ℕ) : Type 0 where
  pub honest : (told new.disk).honest ≡ (told old.disk).honest
  pub crash : (told old.disk).honest ≡ true
      → LeavesOnly (told old.disk) (told new.disk) (IsBeforeOrAfter (reading (told old.disk).seen).lines line)

-- a line is in the journal: it was appended, if it was new
abbrev pub Keeps : {D : Type 0} → (D → Told) → LogView D → LogView D → List ℕ → Bool → Type 0
Keeps told old new line true = AppendsLine told old new line
Keeps told old new line false = new ≡ old

-- a line may not be in the journal
abbrev pub KeepsNot : {D : Type 0} → (D → Told) → LogView D → LogView D → List ℕ → DayStatus → Type 0
KeepsNot told old new line DiskFault = Fails told old new line
KeepsNot told old new line NoMemory = new ≡ old
KeepsNot told old new line _ = ⊥

-- the script's line of a number is in the journal
abbrev pub IsKept : {D : Type 0} → (D → Told) → List (List ℕ) → LogView D → LogView D → ℕ → List ℕ → Type 0
IsKept told journal old new number text = (is_new : Bool) × IsNew journal number text is_new × Keeps told old new text is_new

-- what became of the journal at the script's line of a number, at which the day ended so
abbrev pub IsNotKept : {D : Type 0} → (D → Told) → List (List ℕ) → LogView D → LogView D → ℕ → List ℕ → DayStatus → Type 0
IsNotKept told journal old new number text (Differs n) = (n ≡ number) × IsOther journal number text × (new ≡ old)
IsNotKept told journal old new number text (BadLine n cause) = ((is_new : Bool) × IsNew journal number text is_new) × (new ≡ old)
IsNotKept told journal old new number text (LimitLine n which) = ((is_new : Bool) × IsNew journal number text is_new) × (new ≡ old)
IsNotKept told journal old new number text DiskFault = (length journal < number) × Fails told old new text
IsNotKept told journal old new number text NoMemory = new ≡ old
IsNotKept told journal old new number text WriteFault = IsKept told journal old new number text
IsNotKept told journal old new number text _ = ⊥

-- ---- over the lines that a journal had

-- the files that read as these lines
abbrev pub ReadAs : List (List ℕ) → List ℕ → Type 0
ReadAs journal file = reading file ≡ intact journal

-- what was made of a journal of these lines: the lines were compared, each line that was worked is on the disk, and what a crash
-- leaves
pub record Continued (journal lines worked : List (List ℕ)) (opened now : Told) (status : DayStatus) : Type 0 where
  pub agrees : Agrees journal lines worked status
  pub stored : Stored journal worked now status
  pub crash : LeavesOnly opened now (Follows lines (ReadAs journal))
