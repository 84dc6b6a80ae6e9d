use Rattle.book_trials.proofs.Later.{after_cut}
use Rattle.book_trials.proofs.tests.matching.sides.leave.Goals as goal

pub returns-in-Put : goal.returns-in-Put
returns-in-Put g c = after_cut _ _ _ _ _ c.args.event c.cut-node.result c.requires c.cut-node.ensures.found
