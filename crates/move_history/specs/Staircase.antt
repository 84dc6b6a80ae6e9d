-- What a history of moves is kept as, and which histories it answers for.
use Rattle.std.specs.Prelude.{◌≡◌, ℕ, List}
use Rattle.venue_words.specs.Moves.{History, current_value, changed}
use Rattle.move_history.specs.declared.kept.KeptMove.{KeptMove}
use Rattle.move_history.specs.Kept.{last_below}

-- the last value, its event, the moves that still answer for a limit, and the room for further ones
pub record Staircase : Type 0 where
  pub current : ℕ
  pub latest : ℕ
  pub kept : List KeptMove
  pub room : ℕ

-- the last event at which the lesser of the value and `cap` changed, or 0
abbrev pub last_change : Staircase → ℕ → ℕ
last_change moves cap = last_below cap 0 moves.kept

-- what is kept answers as the whole history does
pub record Tells (moves : Staircase) (history : History) : Type 0 where
  pub current : moves.current ≡ current_value history
  pub changes : (cap : ℕ) → last_change moves cap ≡ changed history cap
