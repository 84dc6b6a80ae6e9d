-- How a link in memory is seen.
use Rattle.std.specs.Prelude.{ℕ, List, [], ◌∷◌, map, drop}
use Rattle.io_edge.specs.declared.mem_link.LinkItem.{LinkItem}
use Rattle.io_edge.specs.declared.mem_link.LinkItem.TheVariants.{Piece, Quiet, End}
use Rattle.io_edge.specs.Links.{Answer}
use Rattle.io_edge.specs.Links.Answer.{piece, quiet, ended}

-- some bytes, or nothing now
abbrev pub heard : List ℕ → Answer
heard [] = quiet
heard (x ∷ xs) = piece (x ∷ xs)

-- an item without its first bytes
abbrev pub item_from : ℕ → LinkItem → Answer
item_from at (Piece bytes) = heard (drop at bytes.items)
item_from at Quiet = quiet
item_from at End = ended

-- an item as it is given
abbrev pub answer_in : LinkItem → Answer
answer_in item = item_from 0 item

-- items of which the first one lacks its first bytes
abbrev pub items_from : ℕ → List LinkItem → List Answer
items_from at [] = []
items_from at (item ∷ items) = item_from at item ∷ map answer_in items
