-- The desk stays its member's, and the floor that of the config.
use Rattle.std.proofs.Common.{◌≡◌}
use Rattle.desk_trials.proofs.tests.desks.first_other.Given as goal

abbrev pub invariant-loop-place : goal.invariant-loop-place
invariant-loop-place g l = record {
  member : l.desk.member ≡ l.initial.desk.member;
  mark : g.F.Floor.mark l.floor ≡ g.F.Floor.mark l.initial.floor;
}
