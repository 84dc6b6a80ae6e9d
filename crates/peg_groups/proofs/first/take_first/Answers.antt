use Rattle.std.proofs.Common.{refl}
use Rattle.peg_groups.specs.Groups.{NoneActiveIn}
use Rattle.peg_groups.proofs.Scan.{upto_all}
use Rattle.peg_groups.proofs.first.take_first.Goals as goal

pub returns-in-None-clause-none : goal.returns-in-None-clause-none
returns-in-None-clause-none g c = λ none. (upto_all NoneActiveIn c.args.groups.now.entries c.in-None.ensures.best, refl)
