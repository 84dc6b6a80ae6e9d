use Rattle.std.proofs.Common.{rules}
use Rattle.fix_write.specs.MessageTypes.{byte_of}
use Rattle.fix_write.proofs.message_type.MessageType.byte.Goals as goal

pub returns-in-CancelReject : goal.returns-in-CancelReject
unfolding byte_of
returns-in-CancelReject c = search rules
