-- The frames before this one were put.
use Rattle.std.proofs.Common.{◌≡◌, ◌≤◌, take}
use Rattle.io_edge.specs.Links.{Tells, WasPut}
use Rattle.link_work.specs.Turns.{joined}
use Rattle.link_work.proofs.putting.put_all.Given as goal

abbrev pub invariant-loop-frame : goal.invariant-loop-frame
invariant-loop-frame g l = record {
  put : Tells (WasPut (joined (take l.frame-index l.frames))) (g.K.Link.told l.initial.link) (g.K.Link.told l.link);
  end : g.K.Link.ends l.link ≡ g.K.Link.ends l.initial.link;
  later : g.K.Link.faults l.initial.link ≤ g.K.Link.faults l.link;
}
