-- The moves that are kept of a history, oldest first, and for which limits each is the last.
use Rattle.std.specs.Prelude.{ℕ, ◌<◌, ◌≤◌, List, [], ◌∷◌, length, get_or, nat_lt, if◌then◌else◌}
use Rattle.move_history.specs.declared.kept.KeptMove.{KeptMove}

abbrev pub no_move : KeptMove
no_move = record { event = 0; low = 0 }

-- the low of the move at a place
abbrev pub low_at : List KeptMove → ℕ → ℕ
low_at kept i = (get_or kept i no_move).low

-- the lows rise along the list, so no two moves have one low
abbrev pub IsRising : List KeptMove → Type 0
IsRising kept = (i j : ℕ) → i < j → j < length kept → low_at kept i < low_at kept j

-- no low is above a value
abbrev pub AreLowsAtMost : ℕ → List KeptMove → Type 0
AreLowsAtMost most kept = (i : ℕ) → i < length kept → low_at kept i ≤ most

-- the event of the last move with a low below `cap`, and `answer` where there is none
abbrev pub last_below : ℕ → ℕ → List KeptMove → ℕ
last_below cap answer [] = answer
last_below cap answer (move ∷ kept) = last_below cap (if nat_lt move.low cap then move.event else answer) kept
