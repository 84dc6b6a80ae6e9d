use Rattle.std.proofs.Common.{rules}
use Rattle.fix_fields.proofs.frame.Frame.over.Goals as goal

pub invariant_of-result : goal.invariant_of-result
invariant_of-result c = search rules
