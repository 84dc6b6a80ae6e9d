use Rattle.std.proofs.Common.{◌≡◌, ◌≤◌, ℕ, false, List}
use Rattle.live_core.specs.Live.{Whole}
use Rattle.live_core.proofs.running.live.Given as goal

-- all rounds so far are worked, kept and put
abbrev pub invariant-loop-going : goal.invariant-loop-going
invariant-loop-going g l = record {
  unspent : l.log.spent ≡ false;
  disk_later : g.D.Disk.faults l.initial.log.disk ≤ g.D.Disk.faults l.log.disk;
  edge_later : g.E.Edge.faults l.initial.edge ≤ g.E.Edge.faults l.edge;
  so_far : (past : List (List ℕ)) → g.M.Machine.has_taken l.initial.machine past
      → Whole g.M.Machine.yields (g.M.Machine.has_taken l.machine) past (g.E.Edge.brought l.initial.edge) (g.E.Edge.brought l.edge)
      (g.E.Edge.told l.initial.edge) (g.E.Edge.told l.edge) (g.D.Disk.told l.initial.log.disk) (g.D.Disk.told l.log.disk);
}

abbrev pub decreases-loop-going : goal.decreases-loop-going
decreases-loop-going g l = g.E.Edge.rounds_left l.edge
