use Rattle.peg_groups.specs.Side.{IsLaterThan}
use Rattle.book_trials.proofs.tests.matching.sides.long_run.Given as goal

abbrev pub invariant-loop-event : goal.invariant-loop-event
invariant-loop-event g l = IsLaterThan (g.S.SideBook.state l.side) l.event
