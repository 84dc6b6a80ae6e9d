-- How a node is seen, and what holds of every node.
use Rattle.std.specs.Prelude.{◌≡◌, ◌+◌, max, ◌∷◌, ◌++◌}
use Rattle.limit_tree.specs.Part.{Part, DifferByAtMost}
use Rattle.limit_tree.specs.Link.{link_rows, link_height, IsFull}
use Rattle.limit_tree.specs.Order.{IsOrdered, least_entry}
use Rattle.limit_tree.specs.declared.node.Node.TheInside.{Inside}

-- a node as the part below it
abbrev pub part_of : Inside → Part
part_of node = record {
  row = node.row;
  rows = link_rows node.left ++ node.row ∷ link_rows node.right;
  least = node.least;
  height = node.height;
}

-- the pair is the row's, the rows are in order, the least entry and the height are right, and the sides are balanced and as full
-- as balanced parts are
pub record IsPart (node : Inside) : Type 0 where
  pub cap : node.cap ≡ node.row.cap
  pub entry : node.entry ≡ node.row.entry
  pub ordered : IsOrdered (link_rows node.left ++ node.row ∷ link_rows node.right)
  pub least : node.least ≡ least_entry (link_rows node.left ++ node.row ∷ link_rows node.right)
  pub height : node.height ≡ max (link_height node.left) (link_height node.right) + 1
  pub balanced : DifferByAtMost 1 (link_height node.left) (link_height node.right)
  pub left_full : IsFull node.left
  pub right_full : IsFull node.right
