-- The frames that were passed over say nothing; each takes bytes from the front of what is kept.
use Rattle.std.proofs.Common.{length}
use Rattle.serve_core.specs.Greeting.{SayTheSame}
use Rattle.serve_core.proofs.greeting.next_greeting.Given as goal

abbrev pub invariant-frames : goal.invariant-frames
invariant-frames l = SayTheSame l.config l.initial.framer.kept l.framer.kept

abbrev pub decreases-frames : goal.decreases-frames
decreases-frames l = length l.framer.kept
