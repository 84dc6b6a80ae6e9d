use Rattle.std.proofs.Common.{length}
use Rattle.message_laws.specs.Taking.{Continues}
use Rattle.message_laws.proofs.reading.take_frames.Given as goal

abbrev pub invariant-loop-frame : goal.invariant-loop-frame
invariant-loop-frame l = Continues l.initial.frames l.initial.framer l.frames l.framer

abbrev pub decreases-loop-frame : goal.decreases-loop-frame
decreases-loop-frame l = length l.framer.kept
