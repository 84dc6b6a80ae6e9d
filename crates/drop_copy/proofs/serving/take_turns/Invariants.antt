-- Whole turns so far.
use Rattle.std.proofs.Common.{◌≡◌, ◌≤◌}
use Rattle.drop_copy.specs.Sessions.{SoFar, ground}
use Rattle.drop_copy.proofs.serving.take_turns.Given as goal

abbrev pub invariant-turns : goal.invariant-turns
invariant-turns g l = record {
  so_far : SoFar g.F.Floor.at (g.F.Floor.reports_in (g.F.Floor.mark l.initial.floor)) l.config l.initial.desk l.desk
      (ground l.initial.floor (g.K.Link.told l.initial.link) (g.C.Clock.told l.initial.clock)) (ground l.floor (g.K.Link.told l.link) (g.C.Clock.told l.clock));
  mark : g.F.Floor.mark l.floor ≡ g.F.Floor.mark l.initial.floor;
  later : g.K.Link.faults l.initial.link ≤ g.K.Link.faults l.link;
  ends : g.K.Link.ends l.link ≡ g.K.Link.ends l.initial.link;
}
