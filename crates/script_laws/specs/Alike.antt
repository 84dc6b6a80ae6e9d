-- What depends on what was received alone, over sessions, desks and feeds whose members were sent other things.
use Rattle.std.specs.Prelude.{◌≡◌}
use Rattle.std.specs.List.{AllZip}
use Rattle.session_core.specs.Alike.{AreAlike}
use Rattle.member_gate.specs.Answering.{Work}
use Rattle.line_work.specs.FeedState.{FeedState, Connection}

-- the same commands go to books, and alike sessions are left; what is sent may differ
pub record SubmitAlike (a b : Work) : Type 0 where
  pub sessions : AreAlike a.session b.session
  pub submissions : a.submissions ≡ b.submissions

-- connections over which the same bytes came to one member, in sessions that differ only in what they sent
pub record ConnectionsAlike (a b : Connection) : Type 0 where
  pub number : a.number ≡ b.number
  pub stream : a.stream ≡ b.stream
  pub sessions : AreAlike a.session b.session

-- the same config and moment, and each connection alike
pub record FeedsAlike (a b : FeedState) : Type 0 where
  pub config : a.config ≡ b.config
  pub moment : a.moment ≡ b.moment
  pub connections : AllZip ConnectionsAlike a.connections b.connections
