use Rattle.std.proofs.Common.{arith, rules}
use Rattle.std.proofs.lemmas.Grind.{common_steps}
use Rattle.fix_fields.specs.Fields.{data_cut}
use Rattle.fix_fields.proofs.splitting.data_field.Goals as goal

pub returns-then-not-starts_with-clause-value : goal.returns-then-not-starts_with-clause-value
unfolding data_cut
returns-then-not-starts_with-clause-value c = grind (arith, common_steps)

pub returns-clause-value : goal.returns-clause-value
unfolding data_cut
returns-clause-value c = search rules
