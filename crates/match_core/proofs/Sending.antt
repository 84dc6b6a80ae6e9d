-- The sides of a book may go to another thread.
use denote.Param.Send.{IsSend, sendable}
use Rattle.std.proofs.Crossing.{crosses}
use Rattle.limit_tree.proofs.node.Node.TheLaws.TheKnot as node
use Rattle.limit_tree.specs.contracts.tree.LimitTree as tree
use Rattle.peg_groups.specs.contracts.group_side.GroupSide as side
use Rattle.match_core.specs.contracts.sides.Sides as sides

pub tree_send : IsSend tree.the_row
tree_send = search (node.crosses, crosses, sendable) depth 100 fits 50000

pub side_send : IsSend side.the_row
side_send = search (tree_send, crosses, sendable) depth 100 fits 50000

pub sides_send : (g : _) → IsSend (sides.the_row side.the_row g)
sides_send g = search (side_send, node.crosses, crosses, sendable) depth 100 fits 50000
