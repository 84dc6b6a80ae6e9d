-- A journal's file that grows while it is read.
use Rattle.std.specs.Prelude.{◌≡◌, ◌⊎◌, ◌<◌, ◌≤◌, ◌+◌, ℕ, true, false, List, [], take, drop, length, Option, None, Some}
use Rattle.venue_words.specs.declared.limits.TheConstants.{MAX_LINE_BYTES}
use Rattle.day_journal.specs.Log.{with_lines, read_all, reading, intact, size_of}
use Rattle.journal_follow.specs.declared.piece.ReadAs.{ReadAs}
use Rattle.journal_follow.specs.declared.piece.ReadAs.TheVariants.{Whole, Cut}
use Rattle.journal_follow.specs.declared.piece.Stop.{Stop}
use Rattle.journal_follow.specs.declared.piece.Stop.TheVariants as stop

-- a file begins with these lines: it reads as they do, and then as what stands after them
abbrev pub BeginsWith : List (List ℕ) → List ℕ → Type 0
BeginsWith lines file = read_all file ≡ with_lines lines (read_all (drop (size_of lines) file))

-- whatever lines a file began with, it begins with later
abbrev pub KeepsLines : List ℕ → List ℕ → Type 0
KeepsLines old new = (lines : List (List ℕ)) → BeginsWith lines old → BeginsWith lines new

-- the file that is told of is the one from before, grown
abbrev pub GoesOn : Option (List ℕ) → Option (List ℕ) → Type 0
GoesOn None None = Unit {0}
GoesOn None (Some new) = ⊥
GoesOn (Some old) None = ⊥
GoesOn (Some old) (Some new) = KeepsLines old new

-- so many bytes were read of a file from a place on: all that the room takes, or all that there are
pub record IsPiece (room : List ℕ) (count at : ℕ) (file : List ℕ) : Type 0 where
  pub bytes : take count room ≡ take count (drop at file)
  pub end : count < length room → length (drop at file) ≡ count

-- what bytes read as
abbrev pub IsRead : List ℕ → ReadAs → Type 0
IsRead bytes (Whole lines size) = (reading bytes ≡ intact lines.items) × (size ≡ size_of lines.items)
IsRead bytes (Cut at) = ((reading bytes).damaged ≡ true) × (at ≡ size_of (reading bytes).lines)

-- a piece is so long that a whole line stands in it, or it is all that there is
abbrev pub IsLongOrAll : List ℕ → List ℕ → Type 0
IsLongOrAll piece rest = (5 + MAX_LINE_BYTES < length piece) ⊎ (length rest ≤ length piece)

-- what stands from a place of a file on reads as these lines, and then as what stands after them: nothing at a closed gate, and
-- damage where a line begins that is not whole in the file
pub record IsFoundIn (piece rest : List ℕ) (lines : List (List ℕ)) (how : Stop) : Type 0 where
  pub front : BeginsWith lines rest
  pub closed : how ≡ stop.Closed → read_all rest ≡ intact lines
  pub damaged : how ≡ stop.Damaged → (lines ≡ []) × (IsLongOrAll piece rest → read_all rest ≡ record { lines = []; damaged = true })

-- A file that was not damaged, and is changed only after its lines, keeps them.
abbrev pub GrownKeepsLines : Type 0
GrownKeepsLines = (old new : List ℕ) → (read_all old).damaged ≡ false
    → take (size_of (read_all old).lines) new ≡ take (size_of (read_all old).lines) old → size_of (read_all old).lines < length new
    → KeepsLines old new
