-- Some frames of the stream were worked; each takes bytes from the front of what is kept.
use Rattle.std.proofs.Common.{length}
use Rattle.drop_copy.proofs.Frames.{Going}
use Rattle.drop_copy.proofs.answering.work_frames.Given as goal

abbrev pub invariant-frames : goal.invariant-frames
invariant-frames l =
    Going l.moment l.initial.session l.initial.framer.kept l.initial.replies.items l.session l.framer.kept l.replies.items

abbrev pub decreases-frames : goal.decreases-frames
decreases-frames l = length l.framer.kept
