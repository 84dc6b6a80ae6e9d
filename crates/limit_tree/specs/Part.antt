-- A part of the tree: what its topmost node holds and what stands below it.
use Rattle.std.specs.Prelude.{◌≡◌, ℕ, zero, suc, ◌+◌, ◌≤◌, List, [], ◌∷◌}
use Rattle.venue_words.specs.declared.row.Row.{Row}

-- the row of the node, all rows of its part in order, the least entry among them, and the part's height
pub record Part : Type 0 where
  pub row : Row
  pub rows : List Row
  pub least : ℕ
  pub height : ℕ

-- the node has no children
abbrev pub IsLeaf : Part → Type 0
IsLeaf part = part.rows ≡ part.row ∷ []

-- neither height is more than this above the other
abbrev pub DifferByAtMost : ℕ → ℕ → ℕ → Type 0
DifferByAtMost by left right = (left ≤ right + by) × (right ≤ left + by)

-- the terms of a Fibonacci series from two of them on
abbrev pub series : ℕ → ℕ → ℕ → ℕ
series this next zero = this
series this next (suc n) = series next (this + next) n

-- one more than the fewest rows that a balanced part of a height has
abbrev pub fewest : ℕ → ℕ
fewest height = series 1 2 height
