-- The number that is to come is raised by the message of that number alone.
use Rattle.std.proofs.Common.{◌≡◌, ◌==◌, Bool, List, Option, None, Some, Result, Ok, Err, true, false, refl, arith, ◌∙◌}
use Rattle.std.specs.Prelude.{ℕ, ℤ, length, not, ◌&&◌}
use Rattle.fix_fields.specs.declared.field.Field.{Field}
use Rattle.fix_fields.specs.declared.field.FieldFault.{FieldFault}
use Rattle.fix_fields.specs.Fields.{split}
use Rattle.fix_write.specs.declared.message_type.MessageType.{MessageType}
use Rattle.fix_write.specs.declared.message_type.MessageType.TheVariants.{ResendRequest, Logout}
use Rattle.session_core.specs.declared.state.State.{State}
use Rattle.session_core.specs.declared.plan.Span.{Span}
use Rattle.session_core.specs.declared.plan.Plan.{Plan}
use Rattle.session_core.specs.Lookup.{message_number, kind_of}
use Rattle.fix_fields.specs.Content.{content_of}
use Rattle.session_core.specs.State.{is_up, heard}
use Rattle.session_core.specs.Answers.{logs_out, drops, rejects, unless_failed, drops_wrong_name}
use Rattle.session_core.specs.Resend.{resends, on_resend_request}
use Rattle.session_core.specs.Sequence.{on_logout, too_low, resends_early, too_early, by_number, in_reset_mode, when_up}
use Rattle.session_core.specs.Cases.{on_message}
use Rattle.session_core.specs.Machine.{Machine, on_frame, on_fields, carried_out, sent_now, plan_for, incoming}
use Rattle.message_laws.specs.Stays.{is_astray, is_garbled_or_astray, NumberStays}
use Rattle.message_laws.proofs.Keeping.{up_not_over}

-- ---- a plan that leaves the number

drops-next : (state : State) (cause : _) (text : List ℕ) → (drops state cause text).state.next_in ≡ state.next_in
unfolding drops logs_out
drops-next state cause text = grind arith

drops_wrong_name-next : (state : State) (message : _) (tag : ℕ) →
    (drops_wrong_name state message tag).state.next_in ≡ state.next_in
unfolding drops_wrong_name
drops_wrong_name-next state message tag = grind arith

resends-next : (state : State) (message : _) (sent : ℕ) (asked : Span) →
    (resends state message sent asked).state.next_in ≡ state.next_in
unfolding resends rejects
resends-next state message sent asked = grind arith

on_resend_request-next : (state : State) (message : _) (sent : ℕ) →
    (on_resend_request state message sent).state.next_in ≡ state.next_in
unfolding on_resend_request
on_resend_request-next state message sent = resends-next state message sent _

on_logout-next : (state : State) (message : _) (failed : Option _) (plan : Plan) → plan.state.next_in ≡ state.next_in →
    (unless_failed state message failed plan).state.next_in ≡ state.next_in
unfolding rejects
on_logout-next state message None plan h = h
on_logout-next state message (Some failed) plan h = refl

too_low-next : (state : State) (message : _) → (too_low state message).state.next_in ≡ state.next_in
unfolding too_low logs_out
too_low-next state message = grind arith

logout-next : (state : State) (message : _) → (on_logout state message).state.next_in ≡ state.next_in
unfolding on_logout logs_out
logout-next state message = on_logout-next state message _ _ refl

resends_early-next : (state : State) (message : _) (sent : ℕ) →
    (resends_early state message sent).state.next_in ≡ state.next_in
unfolding resends_early
resends_early-next state message sent = grind (arith, on_resend_request-next)

too_early-next : (kind : MessageType) (state : State) (message : _) (sent : ℕ) →
    (too_early kind state message sent).state.next_in ≡ state.next_in
unfolding too_early
too_early-next Logout state message sent = logout-next state message
too_early-next ResendRequest state message sent = resends_early-next state message sent
too_early-next _ state message sent = refl

by_number-next : (state : State) (number : ℕ) (fields : List Field) (sent : ℕ) → (number == state.next_in) ≡ false →
    (by_number state (incoming number fields) sent).state.next_in ≡ state.next_in
unfolding by_number
by_number-next state number fields sent other = grind (arith, too_low-next, too_early-next)

when_up-next : (state : State) (number : ℕ) (fields : List Field) (sent : ℕ) → (number == state.next_in) ≡ false →
    in_reset_mode (kind_of fields) fields ≡ false →
    (when_up state (incoming number fields) sent).state.next_in ≡ state.next_in
unfolding when_up
when_up-next state number fields sent other no_reset = rw no_reset (by_number-next state number fields sent other)

on_message-next : (member : List ℕ) (sent : ℕ) (state : State) (number : ℕ) (fields : List Field) →
    is_up state ≡ true → (number == state.next_in) ≡ false →
    in_reset_mode (kind_of fields) fields ≡ false →
    (on_message member sent state (incoming number fields)).state.next_in ≡ state.next_in
unfolding on_message
on_message-next member sent state number fields up other no_reset =
    let inside = when_up-next state number fields sent other no_reset in rw up (grind (arith, drops_wrong_name-next))

-- ---- so the number stays

-- both parts of a test hold
both : (a b : Bool) → (not a && not b) ≡ true → (a ≡ false) × (b ≡ false)
both true true h = cc
both true false h = cc
both false true h = cc
both false false h = (refl, refl)

plan_for-next : (machine : Machine) (state : State) (fields : List Field) (number : Option ℕ) → is_up state ≡ true →
    message_number fields ≡ number → is_astray state.next_in fields ≡ true →
    (plan_for machine state fields number).state.next_in ≡ state.next_in
plan_for-next machine state fields None up found astray = drops-next state _ _
plan_for-next machine state fields (Some number) up found astray =
    let resets = in_reset_mode (kind_of fields) fields in
    let parts = both (number == state.next_in) resets (rw found at astray) in
    on_message-next machine.member (length machine.sent) state number fields up parts.0 parts.1

sent_now-next : (moment : ℤ) (replies : List (List ℕ)) (state : State) →
    (sent_now moment replies state).next_in ≡ state.next_in
sent_now-next moment replies state = grind arith

on_fields-next : (machine : Machine) (moment : ℤ) (found : Result (List Field) FieldFault) →
    is_up machine.state ≡ true → is_garbled_or_astray machine.state.next_in found ≡ true →
    (on_fields machine moment found).machine.state.next_in ≡ machine.state.next_in
unfolding carried_out
on_fields-next machine moment (Err fault) up astray = refl
on_fields-next machine moment (Ok fields) up astray =
    sent_now-next moment _ _
    ∙ plan_for-next machine (heard moment machine.state) fields (message_number fields) up refl astray

pub number_stays : NumberStays
unfolding on_frame
number_stays machine frame moment up astray =
    rw (up_not_over machine.state.phase up) (on_fields-next machine moment (split (content_of frame)) up astray)
