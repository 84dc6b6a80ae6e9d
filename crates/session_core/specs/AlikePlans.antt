-- What a message or a tick asks doesn't depend on what was sent, but for what is sent then.
use Rattle.std.proofs.Common.{◌≡◌, List, [], Option, None, Some, refl, arith, ◌∙◌, sym, ap}
use Rattle.std.specs.Prelude.{ℕ, ◌+◌, ℤ}
use Rattle.session_core.specs.declared.message.Incoming.{Incoming}
use Rattle.session_core.specs.declared.state.State.{State}
use Rattle.session_core.specs.declared.state.EndCause.{EndCause}
use Rattle.session_core.specs.declared.state.EndCause.TheVariants as cause
use Rattle.session_core.specs.declared.plan.Span.{Span}
use Rattle.session_core.specs.declared.plan.Plan.{Plan}
use Rattle.session_core.specs.declared.checks.FailedCheck.{FailedCheck}
use Rattle.fix_write.specs.declared.message_type.MessageType.{MessageType}
use Rattle.fix_write.specs.declared.message_type.MessageType.TheVariants.{ResendRequest, SequenceReset, Logout, Logon}
use Rattle.fix_write.specs.declared.tags.TheConstants.{SENDER_COMP_ID, TARGET_COMP_ID}
use Rattle.session_core.specs.Tables.{failed_of}
use Rattle.session_core.specs.Alike.{but_for_sent}
use Rattle.session_core.specs.Answers.{logs_out, drops, rejects, unless_failed, drops_wrong_name}
use Rattle.session_core.specs.Resend.{resends, on_resend_request}
use Rattle.session_core.specs.Sequence.{sets_next, on_reset, on_logout, too_low, resends_early, too_early, answers_test, by_type, in_turn, by_number, when_up}
use Rattle.session_core.specs.Logon.{before_logon, on_logon, takes_logon}
use Rattle.session_core.specs.Cases.{on_message, on_too_long, on_tick, on_no_number}

-- plans that leave one state, but for what was sent, and hand out the same
pub record ArePlannedAlike (p q : Plan) : Type 0 where
  pub state : but_for_sent p.state ≡ but_for_sent q.state
  pub request : p.request ≡ q.request

-- a state in which something was sent at another moment
abbrev pub sent_at : State → ℤ → State
sent_at state moment = record state { sent_at = moment }

drops-alike : (state : State) (last : ℤ) (cause : EndCause) (text : List ℕ) →
    ArePlannedAlike (drops (sent_at state last) cause text) (drops state cause text)
unfolding drops logs_out
drops-alike state last cause text = record { state = grind arith; request = grind arith }

drops_wrong_name-alike : (state : State) (last : ℤ) (message : Incoming) (tag : ℕ) →
    ArePlannedAlike (drops_wrong_name (sent_at state last) message tag) (drops_wrong_name state message tag)
unfolding drops_wrong_name
drops_wrong_name-alike state last message tag = record { state = grind arith; request = grind arith }

-- what is asked again leaves the state, and hands nothing out
resends-state : (state : State) (message : Incoming) (sent : ℕ) (asked : Span) → (resends state message sent asked).state ≡ state
unfolding resends rejects
resends-state state message sent asked = grind arith

resends-request : (state : State) (message : Incoming) (sent : ℕ) (asked : Span) → (resends state message sent asked).request ≡ None
unfolding resends rejects
resends-request state message sent asked = grind arith

on_resend_request-alike : (state : State) (last : ℤ) (message : Incoming) (first second : ℕ) →
    ArePlannedAlike (on_resend_request (sent_at state last) message first) (on_resend_request state message second)
unfolding on_resend_request
on_resend_request-alike state last message first second = record {
  state = ap but_for_sent (resends-state (sent_at state last) message first _) ∙ sym (ap but_for_sent (resends-state state message second _));
  request = resends-request (sent_at state last) message first _ ∙ sym (resends-request state message second _);
}

unless_failed-alike : (state : State) (last : ℤ) (message : Incoming) (failed : Option FailedCheck) (p q : Plan) → ArePlannedAlike p q →
    ArePlannedAlike (unless_failed (sent_at state last) message failed p) (unless_failed state message failed q)
unfolding rejects
unless_failed-alike state last message None p q h = h
unless_failed-alike state last message (Some failed) p q h = record { state = refl; request = refl }

sets_next-alike : (state : State) (last : ℤ) (message : Incoming) (least : ℕ) →
    ArePlannedAlike (sets_next (sent_at state last) message least) (sets_next state message least)
unfolding sets_next rejects
sets_next-alike state last message least = record { state = grind arith; request = grind arith }

on_reset-alike : (state : State) (last : ℤ) (message : Incoming) →
    ArePlannedAlike (on_reset (sent_at state last) message) (on_reset state message)
unfolding on_reset
on_reset-alike state last message = unless_failed-alike state last message _ _ _ (sets_next-alike state last message state.next_in)

on_logout-alike : (state : State) (last : ℤ) (message : Incoming) →
    ArePlannedAlike (on_logout (sent_at state last) message) (on_logout state message)
unfolding on_logout logs_out
on_logout-alike state last message =
    unless_failed-alike state last message (failed_of Logout message.fields) (logs_out (sent_at state last) cause.Logout []) (logs_out state cause.Logout [])
    (record { state = refl; request = refl })

too_low-alike : (state : State) (last : ℤ) (message : Incoming) →
    ArePlannedAlike (too_low (sent_at state last) message) (too_low state message)
unfolding too_low logs_out
too_low-alike state last message = record { state = grind arith; request = grind arith }

resends_early-alike : (state : State) (last : ℤ) (message : Incoming) (first second : ℕ) →
    ArePlannedAlike (resends_early (sent_at state last) message first) (resends_early state message second)
unfolding resends_early
resends_early-alike state last message first second =
    let again = on_resend_request-alike state last message first second in record {
      state = let a = again.state in grind arith;
      request = let a = again.request in grind arith;
    }

too_early-alike : (kind : MessageType) (state : State) (last : ℤ) (message : Incoming) (first second : ℕ) →
    ArePlannedAlike (too_early kind (sent_at state last) message first) (too_early kind state message second)
unfolding too_early
too_early-alike Logout state last message first second = on_logout-alike state last message
too_early-alike ResendRequest state last message first second = resends_early-alike state last message first second
too_early-alike _ state last message first second = record { state = refl; request = refl }

by_type-alike : (kind : MessageType) (state : State) (last : ℤ) (message : Incoming) (first second : ℕ) →
    ArePlannedAlike (by_type kind (sent_at state last) message first) (by_type kind state message second)
unfolding by_type logs_out rejects answers_test
by_type-alike ResendRequest state last message first second = on_resend_request-alike state last message first second
by_type-alike SequenceReset state last message first second = sets_next-alike state last message (message.number + 1)
by_type-alike _ state last message first second = record { state = refl; request = refl }

in_turn-alike : (state : State) (last : ℤ) (message : Incoming) (first second : ℕ) →
    ArePlannedAlike (in_turn (sent_at state last) message first) (in_turn state message second)
unfolding in_turn
in_turn-alike state last message first second =
    let passed = unless_failed-alike state last message (failed_of message.kind message.fields) _ _ (by_type-alike message.kind state last message first second) in record {
      state = let a = passed.state in grind arith;
      request = let a = passed.request in grind arith;
    }

by_number-alike : (state : State) (last : ℤ) (message : Incoming) (first second : ℕ) →
    ArePlannedAlike (by_number (sent_at state last) message first) (by_number state message second)
unfolding by_number
by_number-alike state last message first second =
    let low = too_low-alike state last message in
    let early = too_early-alike message.kind state last message first second in
    let turn = in_turn-alike (record state { next_in = message.number + 1 }) last message first second in record {
      state = let a = low.state in let b = early.state in let c = turn.state in grind arith;
      request = let a = low.request in let b = early.request in let c = turn.request in grind arith;
    }

when_up-alike : (state : State) (last : ℤ) (message : Incoming) (first second : ℕ) →
    ArePlannedAlike (when_up (sent_at state last) message first) (when_up state message second)
unfolding when_up
when_up-alike state last message first second =
    let reset = on_reset-alike state last message in
    let number = by_number-alike state last message first second in record {
      state = let a = reset.state in let b = number.state in grind arith;
      request = let a = reset.request in let b = number.request in grind arith;
    }

on_logon-alike : (state : State) (last : ℤ) (message : Incoming) →
    ArePlannedAlike (on_logon (sent_at state last) message) (on_logon state message)
unfolding on_logon logs_out takes_logon
on_logon-alike state last message = record { state = grind arith; request = grind arith }

before_logon-alike : (kind : MessageType) (state : State) (last : ℤ) (message : Incoming) →
    ArePlannedAlike (before_logon kind (sent_at state last) message) (before_logon kind state message)
unfolding before_logon
before_logon-alike Logon state last message = on_logon-alike state last message
before_logon-alike _ state last message = record { state = refl; request = refl }

pub no_number-alike : (state : State) (last : ℤ) → ArePlannedAlike (on_no_number (sent_at state last)) (on_no_number state)
no_number-alike state last = drops-alike state last _ _

pub message-alike : (member : List ℕ) (state : State) (last : ℤ) (message : Incoming) (first second : ℕ) →
    ArePlannedAlike (on_message member first (sent_at state last) message) (on_message member second state message)
unfolding on_message
message-alike member state last message first second =
    let sender = drops_wrong_name-alike state last message SENDER_COMP_ID in
    let target = drops_wrong_name-alike state last message TARGET_COMP_ID in
    let up = when_up-alike state last message first second in
    let before = before_logon-alike message.kind state last message in record {
      state = let a = sender.state in let b = target.state in let c = up.state in let d = before.state in grind arith;
      request = let a = sender.request in let b = target.request in let c = up.request in let d = before.request in grind arith;
    }

pub too_long-alike : (state : State) (last : ℤ) → ArePlannedAlike (on_too_long (sent_at state last)) (on_too_long state)
unfolding on_too_long
too_long-alike state last = drops-alike state last _ _

pub tick-alike : (moment : ℤ) (state : State) (last : ℤ) → ArePlannedAlike (on_tick moment (sent_at state last)) (on_tick moment state)
unfolding on_tick logs_out
tick-alike moment state last = record { state = grind arith; request = grind arith }
