use Rattle.std.proofs.Common.{rules}
use Rattle.fix_fields.proofs.splitting.valued.Goals as goal

pub returns-clause-value : goal.returns-clause-value
returns-clause-value c = search rules
