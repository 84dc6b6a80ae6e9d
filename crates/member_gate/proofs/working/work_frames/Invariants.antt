-- Some frames of the stream were worked; each takes bytes from the front of what is kept.
use Rattle.std.proofs.Common.{◌≡◌, length}
use Rattle.member_gate.proofs.Underway.{Underway}
use Rattle.member_gate.proofs.working.work_frames.Given as goal

abbrev pub invariant-frames : goal.invariant-frames
invariant-frames g l = record {
  mark : g.F.Floor.mark l.floor ≡ g.F.Floor.mark l.initial.floor;
  underway : Underway g.F.Floor.at g.F.Floor.step_limit (g.F.Floor.mark l.initial.floor) l.origin.config.now l.origin.member l.origin.feed l.origin.moment
      l.initial.session l.initial.framer.kept l.initial.worked.replies.items (l.initial.floor, l.initial.steps)
      l.session l.framer.kept l.worked.replies.items l.worked.submitted (l.floor, l.steps);
}

abbrev pub decreases-frames : goal.decreases-frames
decreases-frames g l = length l.framer.kept
