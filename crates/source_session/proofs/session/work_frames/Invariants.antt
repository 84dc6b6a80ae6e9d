-- The quotes of the frames that were taken stand in the list. Each frame takes bytes from the front of what is unread.
use Rattle.std.proofs.Common.{◌≡◌, ℕ, List, length}
use Rattle.source_session.specs.Hearing.{hearing_of, IsFed}
use Rattle.source_session.proofs.Steps.{Going}
use Rattle.source_session.proofs.session.work_frames.Given as goal

abbrev pub invariant-frames : goal.invariant-frames
invariant-frames l = record {
  names : l.listener.names ≡ l.initial.listener.names;
  going : (bytes piece : List ℕ)
      → IsFed l.config bytes piece (hearing_of l.initial.listener.names l.initial.listener.state l.initial.framer.kept)
      → Going l.config l.initial.listener.names bytes piece l.initial.said.quotes.items l.said.quotes.items l.listener.state l.framer.kept;
}

abbrev pub decreases-frames : goal.decreases-frames
decreases-frames l = length l.framer.kept
