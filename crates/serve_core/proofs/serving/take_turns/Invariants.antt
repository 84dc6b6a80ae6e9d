-- Whole turns were taken so far.
use Rattle.std.proofs.Common.{◌≡◌, ◌≤◌}
use Rattle.serve_core.specs.Rounds.{Served, Serves}
use Rattle.serve_core.specs.Sessions.{ground, SoFar}
use Rattle.serve_core.proofs.serving.take_turns.Given as goal

abbrev pub invariant-turns : goal.invariant-turns
invariant-turns g l = record {
  mark : g.F.Floor.mark l.floor ≡ g.F.Floor.mark l.initial.floor;
  member : l.desk.member ≡ l.initial.desk.member;
  later : g.K.Link.faults l.initial.link ≤ g.K.Link.faults l.link;
  ends : g.K.Link.ends l.link ≡ g.K.Link.ends l.initial.link;
  so_far : (start : Served) → Serves l.initial.desk start
      → SoFar g.F.Floor.at l.source.config.now l.source.feed start l.desk
      (ground l.initial.floor (g.K.Link.told l.initial.link) (g.C.Clock.told l.initial.clock))
      (ground l.floor (g.K.Link.told l.link) (g.C.Clock.told l.clock));
}
