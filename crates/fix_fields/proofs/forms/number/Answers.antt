use Rattle.std.proofs.Common.{rules}
use Rattle.fix_fields.specs.Forms.{number_of}
use Rattle.fix_fields.proofs.forms.number.Goals as goal

pub overflow_cast-result : goal.overflow_cast-result
overflow_cast-result c = search rules

pub returns-in-Some-clause-value : goal.returns-in-Some-clause-value
unfolding number_of
returns-in-Some-clause-value c = search rules

pub returns-in-Some-clause-small : goal.returns-in-Some-clause-small
returns-in-Some-clause-small c = search rules
