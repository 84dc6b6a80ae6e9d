-- The lines of the frames that were taken stand in the text, and the session has not ended. Each frame takes bytes from the
-- front of what is unread.
use Rattle.std.proofs.Common.{◌≡◌, ℕ, List, None, length}
use Rattle.session_core.specs.State.{cause_of}
use Rattle.market_data.specs.Feeding.{feeding_of, IsFed}
use Rattle.market_data.proofs.FeedingSteps.{Going}
use Rattle.market_data.proofs.feeding.work_frames.Given as goal

abbrev pub invariant-frames : goal.invariant-frames
invariant-frames l =
    (source bytes piece : List ℕ)
    → IsFed l.config source bytes piece (feeding_of l.initial.session l.initial.framer.kept l.initial.last)
    → Going l.config source bytes piece l.initial.text.items l.text.items (feeding_of l.session l.framer.kept l.last)
    × (cause_of l.session.state.phase ≡ None)

abbrev pub decreases-frames : goal.decreases-frames
decreases-frames l = length l.framer.kept
