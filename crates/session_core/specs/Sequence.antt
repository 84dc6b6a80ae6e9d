-- What a message asks of a session that is up, by its number and its type.
use Rattle.std.specs.Prelude.{ℕ, ◌+◌, Bool, false, not, nat_lt, nat_le, if◌then◌else◌, List, [], ◌∷◌, is_none, codes}
use Rattle.fix_fields.specs.declared.field.Field.{Field}
use Rattle.fix_write.specs.declared.message_type.MessageType.{MessageType}
use Rattle.fix_write.specs.declared.message_type.MessageType.TheVariants.{Heartbeat, TestRequest, ResendRequest, Reject, SequenceReset, Logout, Logon}
use Rattle.fix_write.specs.declared.tags.TheConstants.{MSG_TYPE, POSS_DUP_FLAG}
use Rattle.fix_write.specs.MessageTypes.{is_order}
use Rattle.session_core.specs.declared.tags.TheConstants.{NEW_SEQ_NO, TEST_REQ_ID, GAP_FILL_FLAG}
use Rattle.session_core.specs.declared.reasons.TheConstants.{VALUE_OUT_OF_RANGE, WRONG_TYPE}
use Rattle.session_core.specs.declared.message.Incoming.{Incoming}
use Rattle.session_core.specs.declared.state.EndCause.TheVariants as cause
use Rattle.session_core.specs.declared.state.State.{State}
use Rattle.session_core.specs.declared.plan.Plan.{Plan}
use Rattle.session_core.specs.Lookup.{number_or_zero, text_in, is_yes}
use Rattle.session_core.specs.Tables.{failed_of}
use Rattle.session_core.specs.Bodies.{test_answer, resend_request}
use Rattle.session_core.specs.Plan.{says, stays, hands_out}
use Rattle.session_core.specs.Answers.{logs_out, rejects, unless_failed}
use Rattle.session_core.specs.Resend.{on_resend_request, then_asks_again}

-- a SequenceReset sets the next number, where it is not below the least that it may be
unfoldable pub sets_next : State → Incoming → ℕ → Plan
sets_next state incoming least =
    if nat_le least (number_or_zero NEW_SEQ_NO incoming.fields)
    then stays (record state { next_in = number_or_zero NEW_SEQ_NO incoming.fields })
    else rejects state incoming NEW_SEQ_NO VALUE_OUT_OF_RANGE

-- a SequenceReset that is no gap fill, whatever its number
unfoldable pub on_reset : State → Incoming → Plan
on_reset state incoming =
    unless_failed state incoming (failed_of SequenceReset incoming.fields) (sets_next state incoming state.next_in)

-- a Logout
unfoldable pub on_logout : State → Incoming → Plan
on_logout state incoming =
    unless_failed state incoming (failed_of Logout incoming.fields) (logs_out state cause.Logout [])

-- a number that came before
unfoldable pub too_low : State → Incoming → Plan
too_low state incoming =
    if is_yes POSS_DUP_FLAG incoming.fields then stays state else logs_out state cause.TooLow (codes "TOO LOW")

-- what is missing is asked for
abbrev pub asks_again : State → Plan
asks_again state = says state (resend_request state.next_in ∷ [])

-- a ResendRequest that came too early: where it passes the checks it is answered first
unfoldable pub resends_early : State → Incoming → ℕ → Plan
resends_early state incoming sent =
    if is_none (failed_of ResendRequest incoming.fields)
    then then_asks_again (on_resend_request state incoming sent) state.next_in
    else asks_again state

-- a number that came too early, by the message's type: the message is not kept, and is asked for again
unfoldable pub too_early : MessageType → State → Incoming → ℕ → Plan
too_early Logout state incoming sent = on_logout state incoming
too_early ResendRequest state incoming sent = resends_early state incoming sent
too_early _ state incoming sent = asks_again state

-- a TestRequest is answered by a Heartbeat with its identifier
unfoldable pub answers_test : State → Incoming → Plan
answers_test state incoming = says state (test_answer (text_in TEST_REQ_ID incoming.fields) ∷ [])

-- a message that passes the checks, by its type
unfoldable pub by_type : MessageType → State → Incoming → ℕ → Plan
by_type Heartbeat state incoming sent = stays state
by_type Reject state incoming sent = stays state
by_type TestRequest state incoming sent = answers_test state incoming
by_type ResendRequest state incoming sent = on_resend_request state incoming sent
by_type SequenceReset state incoming sent = sets_next state incoming (incoming.number + 1)
by_type Logout state incoming sent = logs_out state cause.Logout []
by_type Logon state incoming sent = rejects state incoming MSG_TYPE WRONG_TYPE
by_type _ state incoming sent = hands_out state incoming

-- the message that was to come
unfoldable pub in_turn : State → Incoming → ℕ → Plan
in_turn state incoming sent =
    if is_order incoming.kind then hands_out state incoming
    else unless_failed state incoming (failed_of incoming.kind incoming.fields) (by_type incoming.kind state incoming sent)

-- by its number
unfoldable pub by_number : State → Incoming → ℕ → Plan
by_number state incoming sent =
    if nat_lt incoming.number state.next_in then too_low state incoming
    else (if nat_lt state.next_in incoming.number then too_early incoming.kind state incoming sent
    else in_turn (record state { next_in = incoming.number + 1 }) incoming sent)

-- whether a message is a SequenceReset in its reset mode: one that is no gap fill
unfoldable pub in_reset_mode : MessageType → List Field → Bool
in_reset_mode SequenceReset fields = not (is_yes GAP_FILL_FLAG fields)
in_reset_mode _ fields = false

-- what a message asks of a session that is up, where `sent` is the last number that was sent
unfoldable pub when_up : State → Incoming → ℕ → Plan
when_up state incoming sent =
    if in_reset_mode incoming.kind incoming.fields then on_reset state incoming
    else by_number state incoming sent
