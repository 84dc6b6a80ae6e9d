use Rattle.std.proofs.Common.{rules}
use Rattle.script_text.specs.Body.{message_of}
use Rattle.script_text.proofs.body.message.Goals as goal

pub returns-in_ok-wrap-in-Some : goal.returns-in_ok-wrap-in-Some
unfolding message_of
returns-in_ok-wrap-in-Some c = search rules
