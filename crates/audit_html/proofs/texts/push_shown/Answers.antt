use Rattle.std.proofs.Common.{arith}
use Rattle.audit_html.proofs.Harmless.{shown_is_harmless}
use Rattle.audit_html.proofs.texts.push_shown.Goals as goal

pub returns-in_err-text-clause-harmless : goal.returns-in_err-text-clause-harmless
returns-in_err-text-clause-harmless c = shown_is_harmless c.args.bytes.now (λ i lt. omega (arith, c.type_inv.bytes i))

pub returns-clause-harmless : goal.returns-clause-harmless
returns-clause-harmless c = shown_is_harmless c.args.bytes.now (λ i lt. omega (arith, c.type_inv.bytes i))
