-- The messages so far stand in the list.
use Rattle.std.proofs.Common.{◌≡◌, take}
use Rattle.message_laws.proofs.runs.listed.Given as goal

abbrev pub invariant-loop-message : goal.invariant-loop-message
invariant-loop-message l = l.list ≡ take l.message-index l.messages
