use Rattle.peg_groups.proofs.GroupSteps.{has_none, free_in}
use Rattle.peg_groups.proofs.groups.enter.Goals as goal

pub unreachable-requires : goal.unreachable-requires
unreachable-requires g c = has_none c.args.key c.requires.has.0 c.args.groups.now.entries c.in-None.ensures.found c.requires.has.1

pub put_into-requires-clause-free : goal.put_into-requires-clause-free
put_into-requires-clause-free g c = λ key group h. free_in c.args.groups.now.entries c.in-Some.i key group c.args.node.value.row.cap c.args.node.value.row.entry h c.requires.absent

pub returns-clause-entered : goal.returns-clause-entered
returns-clause-entered g c =
    let f = c.in-Some.ensures.found in
    record { i = c.in-Some.i; group = f.0; at = f.1; left = c.put_into.ensures.entries c.args.key f.0 f.1 }
