use Rattle.std.proofs.Common.{rules}
use Rattle.market_data.proofs.feeding.end_too_long.Goals as goal

pub returns-in-Some : goal.returns-in-Some
returns-in-Some c = search rules
