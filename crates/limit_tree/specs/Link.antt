-- A link to a part of the tree, which may be empty.
use Rattle.std.specs.Prelude.{ℕ, ◌+◌, ◌≤◌, List, [], length, Option, Some, None}
use Rattle.std.specs.declared.boxed.Box.{Box}
use Rattle.std.specs.declared.alloc.Global.{Global}
use Rattle.venue_words.specs.declared.row.Row.{Row}
use Rattle.limit_tree.specs.Part.{Part, fewest}

-- the rows behind a link
abbrev pub link_rows : Option (Box Part Global) → List Row
link_rows None = []
link_rows (Some node) = node.value.rows

-- the height behind a link
abbrev pub link_height : Option (Box Part Global) → ℕ
link_height None = 0
link_height (Some node) = node.value.height

-- the rows are no fewer than those of a balanced part of this height
abbrev pub IsFull : Option (Box Part Global) → Type 0
IsFull link = fewest (link_height link) ≤ length (link_rows link) + 1
