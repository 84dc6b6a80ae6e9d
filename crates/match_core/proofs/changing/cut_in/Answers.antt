use Rattle.match_core.proofs.Changes.{cut_out}
use Rattle.match_core.proofs.changing.cut_in.Goals as goal

pub returns-clause-left : goal.returns-clause-left
returns-clause-left g c = cut_out c.args.row.now.key c.args.row.now.cap c.args.row.now.entry (g.S.SideBook.state c.args.side.now) (g.S.SideBook.state c.cut-node.new.self) c.cut-node.result c.requires.held c.cut-node.ensures.by_entry c.cut-node.ensures.found c.cut-node.ensures.none
