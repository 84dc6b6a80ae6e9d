-- What a drop session answers: it takes no orders.
use Rattle.std.specs.Prelude.{ℤ}
use Rattle.fix_write.specs.declared.message_type.MessageType.TheVariants.{BusinessReject}
use Rattle.fix_write.specs.declared.tags.TheConstants.{MSG_TYPE}
use Rattle.member_gate.specs.Answering.{business_body}
use Rattle.session_core.specs.Lookup.{text_in}
use Rattle.session_core.specs.Machine.{on_send_one}
use Rattle.session_stream.specs.Work.{Answerer}

-- every message that the session hands out gets a BusinessMessageReject
abbrev pub refuses : ℤ → Answerer
refuses moment session request =
    on_send_one session BusinessReject (business_body request.number (text_in MSG_TYPE request.fields)) moment
