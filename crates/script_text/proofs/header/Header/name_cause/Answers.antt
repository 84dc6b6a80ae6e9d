use Rattle.std.proofs.Common.{rules}
use Rattle.script_text.specs.Header.{name_cause}
use Rattle.script_text.proofs.header.Header.name_cause.Goals as goal

pub returns-else-stood_before : goal.returns-else-stood_before
unfolding name_cause
returns-else-stood_before c = search rules
