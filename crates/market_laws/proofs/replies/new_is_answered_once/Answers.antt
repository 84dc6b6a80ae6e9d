use Rattle.market_laws.proofs.Replying.{new_answered}
use Rattle.market_laws.proofs.replies.new_is_answered_once.Goals as goal

pub returns : goal.returns
returns c = new_answered
