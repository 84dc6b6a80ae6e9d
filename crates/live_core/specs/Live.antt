-- What a live day does to its journal, and what it puts.
use Rattle.std.specs.Prelude.{◌≡◌, ◌⊎◌, ℕ, true, List, [], ◌++◌}
use Rattle.day_journal.specs.Disk.{Told, Only, LeavesOnly}
use Rattle.day_journal.specs.Log.{reading, intact, IsAllOrNone}
use Rattle.live_core.specs.Lines.{Yields, kept, output, AreNotTaken, IsFrontOf}

-- an honest disk has these lines, and a crash leaves them
pub record Stands (lines : List (List ℕ)) (disk : Told) : Type 0 where
  pub honest : disk.honest ≡ true
  pub reads : reading disk.seen ≡ intact lines
  pub durable : Only disk.seen disk.may_leave

-- a file with these lines and the first of some more
abbrev pub HasFront : List (List ℕ) → List (List ℕ) → List ℕ → Type 0
HasFront lines more c = (front : List (List ℕ)) × (reading c ≡ intact (lines ++ front)) × IsFrontOf front more

-- A batch was worked, and kept, and its output was put.
pub record Commits (yields : Yields) (has_taken : List (List ℕ) → Type 0) (past lines : List (List ℕ)) (told_old told_new : List ℕ) (old new : Told) : Type 0 where
  pub now : has_taken (past ++ kept yields past lines)
  pub told : told_new ≡ told_old ++ output yields past lines
  pub stands : Stands past old → Stands (past ++ kept yields past lines) new

-- A batch was not worked to its end. Where anything was put of its output, each crash leaves the whole batch.
pub record CommitsNot (yields : Yields) (past lines : List (List ℕ)) (told_old told_new : List ℕ) (old new : Told) : Type 0 where
  pub put : List ℕ
  pub rest : List ℕ
  pub told : told_new ≡ told_old ++ put
  pub part : put ++ rest ≡ output yields past lines
  pub safe : Stands past old → (c : List ℕ) → new.may_leave c
      → ((put ≡ []) × IsAllOrNone past (kept yields past lines) c) ⊎ (reading c ≡ intact (past ++ kept yields past lines))

-- A day went on over a journal of the lines `past`.
pub record Ran (yields : Yields) (past brought_old brought_new : List (List ℕ)) (told_old told_new : List ℕ) (old new : Told) : Type 0 where
  -- what was brought since
  pub asked : List (List ℕ)
  pub brought : brought_new ≡ brought_old ++ asked
  -- a beginning of what these lines yield was put, with no line left out and none twice
  pub put : List ℕ
  pub rest : List ℕ
  pub told : told_new ≡ told_old ++ put
  pub part : put ++ rest ≡ output yields past asked
  -- A crash at any moment leaves the first of those that were taken.
  pub crash : Stands past old → LeavesOnly old new (HasFront past (kept yields past asked))
  -- And all that was put is what the lines yield that a crash leaves now, or a beginning of it.
  pub safe : Stands past old → (c : List ℕ) → new.may_leave c
      → (front : List (List ℕ)) × (more : List ℕ) × (reading c ≡ intact (past ++ front)) × IsFrontOf front (kept yields past asked) × (put ++ more ≡ output yields past front)

-- Not all that was brought since is taken.
pub record Halts (yields : Yields) (past brought_old brought_new : List (List ℕ)) : Type 0 where
  pub asked : List (List ℕ)
  pub brought : brought_new ≡ brought_old ++ asked
  pub some : AreNotTaken yields past asked

-- It went on to its end.
pub record Whole (yields : Yields) (has_taken : List (List ℕ) → Type 0) (past brought_old brought_new : List (List ℕ)) (told_old told_new : List ℕ) (old new : Told) : Type 0 where
  pub asked : List (List ℕ)
  pub brought : brought_new ≡ brought_old ++ asked
  pub told : told_new ≡ told_old ++ output yields past asked
  pub now : has_taken (past ++ kept yields past asked)
  pub stands : Stands past old → Stands (past ++ kept yields past asked) new
  pub crash : Stands past old → LeavesOnly old new (HasFront past (kept yields past asked))
