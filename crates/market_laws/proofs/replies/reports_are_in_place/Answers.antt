use Rattle.market_laws.proofs.Replying.{reports_in_place}
use Rattle.market_laws.proofs.replies.reports_are_in_place.Goals as goal

pub returns : goal.returns
returns c = reports_in_place
