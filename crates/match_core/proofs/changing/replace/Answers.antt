use Rattle.std.proofs.Common.{refl}
use Rattle.match_core.proofs.Changes.{held_is_there, lower_out, absent_out}
use Rattle.match_core.proofs.changing.replace.Goals as goal

pub unreachable-requires : goal.unreachable-requires
unreachable-requires g c = held_is_there _ _ _ _ (c.requires.held.0, c.requires.held.1) (c.in-None.ensures.none refl)

pub put_back-requires-clause-absent : goal.put_back-requires-clause-absent
put_back-requires-clause-absent g c = absent_out c.args.row.now.key c.args.row.now.cap c.args.row.now.entry c.args.leaves (g.S.SideBook.state c.args.side.now) (g.S.SideBook.state c.cut.new.self) _ _ c.cut.ensures.by_entry c.in-Some.ensures.found c.lowered-node.ensures.row

pub returns-clause-left : goal.returns-clause-left
returns-clause-left g c = lower_out c.args.row.now.key c.args.row.now.cap c.args.row.now.entry c.args.leaves (g.S.SideBook.state c.args.side.now) (g.S.SideBook.state c.cut.new.self) (g.S.SideBook.state c.put_back.new.self) c.requires.held.0 c.args.value c.args.time _ _ c.cut.ensures.by_entry c.requires.held.1 c.in-Some.ensures.found c.lowered-node.ensures.row c.requires.held.2 c.requires.held.3 c.put_back.ensures.state
