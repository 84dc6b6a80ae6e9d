use Rattle.market_laws.proofs.Reporting.{reports_are_few}
use Rattle.market_laws.proofs.replies.reports_are_few.Goals as goal

pub returns : goal.returns
returns c = reports_are_few
