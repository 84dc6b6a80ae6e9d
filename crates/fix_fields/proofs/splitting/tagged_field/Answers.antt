use Rattle.std.proofs.Common.{rules}
use Rattle.fix_fields.specs.Fronts.{tagged_cut}
use Rattle.fix_fields.proofs.splitting.tagged_field.Goals as goal

pub returns-in_err-end-clause-value : goal.returns-in_err-end-clause-value
unfolding tagged_cut
returns-in_err-end-clause-value c = search rules
