-- The lines of a journal beside those of a script.
use Rattle.std.specs.Prelude.{◌≡◌, ℕ, ◌+◌, ◌-◌, List, ◌++◌, take, length, drop}
use Rattle.day_core.specs.declared.status.DayStatus.{DayStatus}
use Rattle.day_core.specs.declared.status.DayStatus.TheVariants.{Done, BadLine, LimitLine, Differs}

-- these lines are the first ones of those
abbrev pub IsFront : List (List ℕ) → List (List ℕ) → Type 0
IsFront front lines = (more : List (List ℕ)) × (lines ≡ front ++ more)

-- the journal's n-th line, counted from 1, is the first one that is not the script's, or that the script does not have
pub record DiffersFirst (n : ℕ) (journal lines : List (List ℕ)) : Type 0 where
  pub before : IsFront (take (n - 1) journal) lines
  pub there : IsFront (take n journal) lines → ⊥

-- Up to where the journal's lines are the script's, where these first lines were worked. At a refused line its own line is
-- judged too.
abbrev pub Agrees : List (List ℕ) → List (List ℕ) → List (List ℕ) → DayStatus → Type 0
Agrees journal lines worked Done = IsFront journal lines
Agrees journal lines worked (BadLine n cause) = IsFront (take (length worked + 1) journal) lines
Agrees journal lines worked (LimitLine n which) = IsFront (take (length worked + 1) journal) lines
Agrees journal lines worked (Differs n) = DiffersFirst n journal lines
Agrees journal lines worked _ = Unit {0}

-- a journal's lines once these first lines of the script were worked: it is as it was until all its lines were met
abbrev pub kept : List (List ℕ) → List (List ℕ) → List (List ℕ)
kept journal worked = worked ++ drop (length worked) journal
