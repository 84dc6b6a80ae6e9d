use Rattle.std.proofs.Common.{rules}
use Rattle.script_text.specs.Body.{keyed_body}
use Rattle.script_text.proofs.body.keyed.Goals as goal

pub returns-then-eq-4-clause-line : goal.returns-then-eq-4-clause-line
unfolding keyed_body
returns-then-eq-4-clause-line c = search rules
