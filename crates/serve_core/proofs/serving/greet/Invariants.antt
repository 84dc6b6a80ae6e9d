-- No frame has named the member so far.
use Rattle.std.proofs.Common.{◌≡◌, ◌≤◌}
use Rattle.serve_core.specs.Greeting.{SayTheSame}
use Rattle.serve_core.specs.Naming.{Unnamed, edge}
use Rattle.serve_core.proofs.serving.greet.Given as goal

abbrev pub invariant-turns : goal.invariant-turns
invariant-turns g l = record {
  later : g.K.Link.faults l.initial.link ≤ g.K.Link.faults l.link;
  ends : g.K.Link.ends l.link ≡ g.K.Link.ends l.initial.link;
  same : SayTheSame l.config l.bytes.items l.framer.kept;
  so_far : Unnamed l.config l.bytes.items
      (edge (g.K.Link.told l.initial.link) (g.C.Clock.told l.initial.clock)) (edge (g.K.Link.told l.link) (g.C.Clock.told l.clock));
}
