use Rattle.std.proofs.Common.{arith}
use Rattle.std.proofs.lemmas.Grind.{common_steps}
use Rattle.audit_order.specs.Lives.{place_text}
use Rattle.audit_order.proofs.change.push_place.Goals as goal

pub returns-in_ok-push-in-Some-2 : goal.returns-in_ok-push-in-Some-2
unfolding place_text
returns-in_ok-push-in-Some-2 c = grind (arith, common_steps)
