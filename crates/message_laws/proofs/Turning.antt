-- A message that was to come.
use Rattle.std.proofs.Common.{◌≡◌, ◌++◌, ℕ, ◌+◌, ◌-◌, ◌<◌, ◌≤◌, true, false, not, ◌&&◌, ◌||◌, eqb, ltb, List, [], ◌∷◌, length, take, drop, Option, Some, None, Ok, ◌⊎◌, inl, inr, refl, sym, ◌∙◌, ap, subst, arith, rules, Bool, cond}
use Rattle.session_core.specs.declared.plan.Plan.{Plan}
use Rattle.session_core.specs.declared.message.Message.{Message}
use Rattle.session_core.specs.declared.checks.FailedCheck.{FailedCheck}
use Rattle.std.specs.List.{AllByRecursion}
use Rattle.std.specs.Prelude.{ℤ, map}
use Rattle.std.proofs.lemmas.Bool.{eqb-false}
use Rattle.std.proofs.lemmas.Bool.Decides.{nat_tests}
use Rattle.std.proofs.lemmas.List.{append-nil}
use Rattle.fix_fields.specs.declared.field.Field.{Field}
use Rattle.fix_fields.specs.Fields.{split}
use Rattle.session_core.specs.declared.message.Kept.{Kept}
use Rattle.session_core.specs.declared.plan.Span.{Span}
use Rattle.session_core.specs.declared.state.Phase.{Phase}
use Rattle.session_core.specs.declared.state.Phase.TheVariants.{New, Up, Ended}
use Rattle.session_core.specs.declared.state.State.{State}
use Rattle.fix_write.specs.declared.message_type.MessageType.{MessageType}
use Rattle.fix_write.specs.declared.message_type.MessageType.TheVariants.{Heartbeat, TestRequest, ResendRequest, Reject, SequenceReset, Logout, Logon}
use Rattle.fix_write.specs.MessageTypes.{byte_of, is_order}
use Rattle.session_core.specs.declared.tags.TheConstants.{BEGIN_SEQ_NO, END_SEQ_NO}
use Rattle.session_core.specs.Answers.{logs_out, rejects, unless_failed}
use Rattle.session_core.specs.Cases.{on_message}
use Rattle.fix_fields.specs.Content.{content_of}
use Rattle.session_core.specs.Frames.{new_frame, new_frames}
use Rattle.session_core.specs.Lookup.{message_number, kind_of, number_or_zero}
use Rattle.session_core.specs.Machine.{Machine, Outcome, carried_out, replies_of, incoming, plan_for, on_frame}
use Rattle.session_core.specs.Bodies.{gap_body, logout, test_answer}
use Rattle.session_core.specs.Plan.{hands_out, sends_again, stays}
use Rattle.session_core.specs.Resend.{resends, on_resend_request}
use Rattle.session_core.specs.Resent.{Resent, Again, Gap, old_frame, gap_frame, frames_of_span, part_of, resent, resent_frame}
use Rattle.session_core.specs.Sequence.{answers_test, sets_next, by_type, in_turn, by_number, when_up}
use Rattle.session_core.specs.State.{heard, is_up, is_up_phase, is_over, cause_of}
use Rattle.session_core.specs.Tables.{failed_of}
use Rattle.message_laws.specs.Ledgers.{Covers}
use Rattle.message_laws.specs.Turns.{IsInTurn, rejected, IsNoReject, RejectIsAlone, handed_out, OrderIsHandedOut, remembered, last_asked, RangeIsAsked}
use Rattle.message_laws.proofs.Planning.{IsWithin, last_from}
use Rattle.message_laws.proofs.Recording.{Remembers, covers_now}

up_is : (phase : Phase) → is_up_phase phase ≡ true → (is_over phase ≡ false) × (cause_of phase ≡ None)
up_is New h = absurd (cc)
up_is Up h = (refl, refl)
up_is (Ended cause) h = absurd (cc)

not_below : (n : ℕ) → ltb n n ≡ false
not_below n = grind (arith, nat_tests)

-- the state in which the message is worked
abbrev taken : Machine → ℤ → State
taken machine moment = record (heard moment machine.state) { next_in = machine.state.next_in + 1 }

-- the plan for it
number_in_turn : (state : State) (fields : List Field) (sent : ℕ) → by_number state (incoming state.next_in fields) sent ≡ in_turn (record state { next_in = state.next_in + 1 }) (incoming state.next_in fields) sent
unfolding by_number
number_in_turn state fields sent = rw (not_below state.next_in) refl

plan_in_turn : (machine : Machine) (frame : List ℕ) (moment : ℤ) (fields : List Field) → IsInTurn machine frame fields → plan_for machine (heard moment machine.state) fields (message_number fields) ≡ in_turn (taken machine moment) (incoming machine.state.next_in fields) (length machine.sent)
unfolding on_message when_up
plan_in_turn machine frame moment fields is =
    let up : is_up machine.state ≡ true = is.up in
    rw (is.number, is.sender, is.target, up, is.ordinary) (number_in_turn (heard moment machine.state) fields (length machine.sent))

frame_in_turn : (machine : Machine) (frame : List ℕ) (moment : ℤ) (fields : List Field) → IsInTurn machine frame fields → on_frame machine frame moment ≡ carried_out machine moment fields (in_turn (taken machine moment) (incoming machine.state.next_in fields) (length machine.sent))
unfolding on_frame
frame_in_turn machine frame moment fields is =
    let over : is_over machine.state.phase ≡ false = (up_is machine.state.phase is.up).0 in
    let content : split (content_of frame) ≡ Ok fields = is.content in
    rw (over, content) (ap (carried_out machine moment fields) (plan_in_turn machine frame moment fields is))

-- ---- a message that is rejected

rejects_in_turn : (machine : Machine) (moment : ℤ) (fields : List Field) (failed : _) → is_order (kind_of fields) ≡ false → failed_of (kind_of fields) fields ≡ Some failed → in_turn (taken machine moment) (incoming machine.state.next_in fields) (length machine.sent) ≡ rejects (taken machine moment) (incoming machine.state.next_in fields) failed.tag failed.reason
unfolding in_turn
rejects_in_turn machine moment fields failed other fails = rw (other, fails) refl

carries_reject : (machine : Machine) (moment : ℤ) (fields : List Field) (failed : FailedCheck) → is_up machine.state ≡ true → carried_out machine moment fields (rejects (taken machine moment) (incoming machine.state.next_in fields) failed.tag failed.reason) ≡ rejected machine fields moment failed
unfolding carried_out replies_of rejects new_frames
carries_reject machine moment fields failed up =
    let none : cause_of machine.state.phase ≡ None = (up_is machine.state.phase up).1 in
    rw none refl

failed_is_rejected : (machine : Machine) (frame : List ℕ) (moment : ℤ) (fields : List Field) (failed : FailedCheck) → IsInTurn machine frame fields → is_order (kind_of fields) ≡ false → failed_of (kind_of fields) fields ≡ Some failed → on_frame machine frame moment ≡ rejected machine fields moment failed
failed_is_rejected machine frame moment fields failed is other fails =
    frame_in_turn machine frame moment fields is
    ∙ ap (carried_out machine moment fields) (rejects_in_turn machine moment fields failed other fails)
    ∙ carries_reject machine moment fields failed is.up

-- ---- every other message sends no Reject

-- no message is a Reject
abbrev NoRejects : List Message → Type 0
NoRejects messages = AllByRecursion (λ (message : Message). byte_of message.kind ≡ byte_of Reject → ⊥) messages

-- a plan is a Reject alone, or has none
record IsReject (state : State) (number : ℕ) (fields : List Field) (plan : Plan) : Type 0 where
  way : ((failed : FailedCheck) × (plan ≡ rejects state (incoming number fields) failed.tag failed.reason)) ⊎ NoRejects plan.messages

either : (state : State) (number : ℕ) (fields : List Field) (b : Bool) (x y : Plan) → IsReject state number fields x → IsReject state number fields y → IsReject state number fields (cond b x y)
either state number fields true x y f g = f
either state number fields false x y f g = g

is_reject : (state : State) (number : ℕ) (fields : List Field) (tag reason : ℕ) → IsReject state number fields (rejects state (incoming number fields) tag reason)
is_reject state number fields tag reason = record { way = inl (record { reason = reason; tag = tag }, refl) }

stays_none : (state next : State) (number : ℕ) (fields : List Field) → IsReject state number fields (stays next)
stays_none state next number fields = record { way = inr tt }

again_none : (state : State) (span : Span) (number : ℕ) (fields : List Field) → IsReject state number fields (sends_again state span)
again_none state span number fields = record { way = inr tt }

out_none : (state : State) (number : ℕ) (fields : List Field) → IsReject state number fields (hands_out state (incoming number fields))
out_none state number fields = record { way = inr tt }

resend_reject : (state : State) (number sent : ℕ) (fields : List Field) → IsReject state number fields (on_resend_request state (incoming number fields) sent)
unfolding on_resend_request resends
resend_reject state number sent fields = search (rules, either, is_reject, again_none)

kind_apart : (kind : MessageType) → eqb (byte_of kind) (byte_of Reject) ≡ false → byte_of kind ≡ byte_of Reject → ⊥
kind_apart kind apart is = eqb-false (byte_of kind) (byte_of Reject) apart is

test_reject : (state : State) (number : ℕ) (fields : List Field) → IsReject state number fields (answers_test state (incoming number fields))
unfolding answers_test test_answer byte_of
test_reject state number fields = record { way = inr (kind_apart Heartbeat refl, tt) }

logout_reject : (state : State) (number : ℕ) (fields : List Field) (cause : _) (text : List ℕ) → IsReject state number fields (logs_out state cause text)
unfolding logs_out logout byte_of
logout_reject state number fields cause text = record { way = inr (kind_apart Logout refl, tt) }

sets_reject : (state : State) (number least : ℕ) (fields : List Field) → IsReject state number fields (sets_next state (incoming number fields) least)
unfolding sets_next
sets_reject state number least fields = search (rules, either, is_reject, stays_none)

type_reject : (kind : MessageType) (state : State) (number sent : ℕ) (fields : List Field) → IsReject state number fields (by_type kind state (incoming number fields) sent)
unfolding by_type
type_reject Heartbeat state number sent fields = stays_none state state number fields
type_reject Reject state number sent fields = stays_none state state number fields
type_reject TestRequest state number sent fields = test_reject state number fields
type_reject ResendRequest state number sent fields = resend_reject state number sent fields
type_reject SequenceReset state number sent fields = sets_reject state number (number + 1) fields
type_reject Logout state number sent fields = logout_reject state number fields _ _
type_reject Logon state number sent fields = is_reject state number fields _ _
type_reject _ state number sent fields = out_none state number fields

unless_reject : (state : State) (number sent : ℕ) (fields : List Field) (failed : Option FailedCheck) → IsReject state number fields (unless_failed state (incoming number fields) failed (by_type (kind_of fields) state (incoming number fields) sent))
unless_reject state number sent fields None = type_reject (kind_of fields) state number sent fields
unless_reject state number sent fields (Some failed) = is_reject state number fields failed.tag failed.reason

turn_reject : (state : State) (number sent : ℕ) (fields : List Field) → IsReject state number fields (in_turn state (incoming number fields) sent)
unfolding in_turn
turn_reject state number sent fields = search (rules, either, out_none, unless_reject)

new_no_reject : (member : List ℕ) (moment : ℤ) (number : ℕ) (messages : List Message) → NoRejects messages → AllByRecursion (IsNoReject member) (new_frames member moment number messages)
unfolding new_frames new_frame
new_no_reject member moment number [] none = tt
new_no_reject member moment number (message ∷ messages) none =
    (record { kind = byte_of message.kind; number = number; moment = moment; first = None; body = message.body; frame_is = refl; other = λ _ is. none.0 is }, new_no_reject member moment (number + 1) messages none.1)

again_no_reject : (member : List ℕ) (moment : ℤ) (items : List Resent) (frames : List (List ℕ)) → AllByRecursion (IsNoReject member) frames → AllByRecursion (IsNoReject member) (map (resent_frame member moment) items ++ frames)
unfolding old_frame gap_frame
again_no_reject member moment [] frames all = all
again_no_reject member moment (Again number kept ∷ items) frames all =
    (record { kind = byte_of kept.message.kind; number = number; moment = moment; first = Some kept.moment; body = kept.message.body; frame_is = refl; other = λ e _. absurd (let x : Some kept.moment ≡ None = e in cc) }, again_no_reject member moment items frames all)
again_no_reject member moment (Gap from to ∷ items) frames all =
    (record { kind = byte_of SequenceReset; number = from; moment = moment; first = Some moment; body = gap_body to; frame_is = refl; other = λ e _. absurd (let x : Some moment ≡ None = e in cc) }, again_no_reject member moment items frames all)

span_no_reject : (machine : Machine) (moment : ℤ) (span : Option Span) (frames : List (List ℕ)) → AllByRecursion (IsNoReject machine.member) frames → AllByRecursion (IsNoReject machine.member) (frames_of_span machine.member moment machine.sent span ++ frames)
span_no_reject machine moment None frames all = all
span_no_reject machine moment (Some span) frames all = again_no_reject machine.member moment (resent span.first (part_of machine.sent span)) frames all

carried_reject : (machine : Machine) (moment : ℤ) (fields : List Field) (plan : Plan) → is_up machine.state ≡ true → ((failed : FailedCheck) × (plan ≡ rejects (taken machine moment) (incoming machine.state.next_in fields) failed.tag failed.reason)) ⊎ NoRejects plan.messages → ((failed : FailedCheck) × (carried_out machine moment fields plan ≡ rejected machine fields moment failed)) ⊎ AllByRecursion (IsNoReject machine.member) (carried_out machine moment fields plan).turn.replies
unfolding carried_out replies_of
carried_reject machine moment fields plan up (inl f) = inl (f.0, ap (carried_out machine moment fields) f.1 ∙ carries_reject machine moment fields f.0 up)
carried_reject machine moment fields plan up (inr none) =
    inr (span_no_reject machine moment plan.resend _ (new_no_reject machine.member moment _ plan.messages none))

pub reject_is_alone : RejectIsAlone
reject_is_alone = record {
  failed = failed_is_rejected;
  every = λ machine frame moment fields is.
      (let turn = frame_in_turn machine frame moment fields is in
      subst (λ (o : Outcome). ((failed : FailedCheck) × (o ≡ rejected machine fields moment failed)) ⊎ AllByRecursion (IsNoReject machine.member) o.turn.replies) (sym turn)
      (carried_reject machine moment fields (in_turn (taken machine moment) (incoming machine.state.next_in fields) (length machine.sent)) is.up (turn_reject (taken machine moment) machine.state.next_in (length machine.sent) fields).way));
}

-- ---- an order

hands_out_in_turn : (machine : Machine) (moment : ℤ) (fields : List Field) → is_order (kind_of fields) ≡ true → in_turn (taken machine moment) (incoming machine.state.next_in fields) (length machine.sent) ≡ hands_out (taken machine moment) (incoming machine.state.next_in fields)
unfolding in_turn
hands_out_in_turn machine moment fields order = rw order refl

carries_order : (machine : Machine) (moment : ℤ) (fields : List Field) → is_up machine.state ≡ true → carried_out machine moment fields (hands_out (taken machine moment) (incoming machine.state.next_in fields)) ≡ handed_out machine fields moment
unfolding carried_out replies_of new_frames
carries_order machine moment fields up =
    let none : cause_of machine.state.phase ≡ None = (up_is machine.state.phase up).1 in
    rw (none, append-nil machine.sent) refl

pub order_is_handed_out : OrderIsHandedOut
order_is_handed_out machine frame moment fields is order =
    frame_in_turn machine frame moment fields is
    ∙ ap (carried_out machine moment fields) (hands_out_in_turn machine moment fields order)
    ∙ carries_order machine moment fields is.up

-- ---- a range that is asked

resends_in_turn : (machine : Machine) (moment : ℤ) (fields : List Field) → kind_of fields ≡ ResendRequest → failed_of ResendRequest fields ≡ None → in_turn (taken machine moment) (incoming machine.state.next_in fields) (length machine.sent) ≡ on_resend_request (taken machine moment) (incoming machine.state.next_in fields) (length machine.sent)
unfolding in_turn by_type is_order
resends_in_turn machine moment fields kind passes = rw (kind, passes) refl

-- the range is within what was sent
first_test : (first sent : ℕ) → 0 < first → first ≤ sent → ((eqb first 0) || ltb sent first) ≡ false
first_test first sent some most = grind (arith, nat_tests)

last_test : (first last : ℕ) → (last ≡ 0) ⊎ (first ≤ last) → (not (eqb last 0) && ltb last first) ≡ false
last_test first last (inl none) = rw none refl
last_test first last (inr some) = grind (arith, nat_tests)

asks_range : (machine : Machine) (moment : ℤ) (fields : List Field) → 0 < number_or_zero BEGIN_SEQ_NO fields → number_or_zero BEGIN_SEQ_NO fields ≤ length machine.sent → (number_or_zero END_SEQ_NO fields ≡ 0) ⊎ (number_or_zero BEGIN_SEQ_NO fields ≤ number_or_zero END_SEQ_NO fields) → on_resend_request (taken machine moment) (incoming machine.state.next_in fields) (length machine.sent) ≡ sends_again (taken machine moment) (record { first = number_or_zero BEGIN_SEQ_NO fields; last = last_asked (number_or_zero END_SEQ_NO fields) (length machine.sent) })
unfolding on_resend_request resends
asks_range machine moment fields some most order =
    let first = first_test (number_or_zero BEGIN_SEQ_NO fields) (length machine.sent) some most in
    let last = last_test (number_or_zero BEGIN_SEQ_NO fields) (number_or_zero END_SEQ_NO fields) order in
    rw (first, last) refl

replies_again : (machine : Machine) (moment : ℤ) (fields : List Field) (state : State) (span : Span) → (carried_out machine moment fields (sends_again state span)).turn.replies ≡ map (resent_frame machine.member moment) (resent span.first (part_of machine.sent span))
unfolding carried_out replies_of new_frames
replies_again machine moment fields state span = append-nil (map (resent_frame machine.member moment) (resent span.first (part_of machine.sent span)))

remembers : (member : List ℕ) (number : ℕ) (sent : List (Option Kept)) → Remembers member number sent (remembered member number sent)
remembers member number [] = tt
remembers member number (Some kept ∷ sent) = (refl, refl, remembers member (number + 1) sent)
remembers member number (None ∷ sent) = (refl, remembers member (number + 1) sent)

pub range_is_asked : RangeIsAsked
range_is_asked machine frame moment fields is kind passes some most order =
    let first = number_or_zero BEGIN_SEQ_NO fields in
    let last = last_asked (number_or_zero END_SEQ_NO fields) (length machine.sent) in
    let l = last_from first (number_or_zero END_SEQ_NO fields) (length machine.sent) most (last_test first (number_or_zero END_SEQ_NO fields) order) in
    let within : IsWithin (length machine.sent) first last = record { some = some; order = l.0; most = l.1 } in
    let covers = covers_now machine.member moment machine.sent (remembered machine.member 1 machine.sent) first last (remembers machine.member 1 machine.sent) within in
    let replies : (on_frame machine frame moment).turn.replies ≡ map (resent_frame machine.member moment) (resent first (drop (first - 1) (take last machine.sent))) =
    ap (λ (o : Outcome). o.turn.replies) (frame_in_turn machine frame moment fields is ∙ ap (carried_out machine moment fields) (resends_in_turn machine moment fields kind passes ∙ asks_range machine moment fields some most order))
    ∙ replies_again machine moment fields (taken machine moment) (record { first = first; last = last }) in
    subst (λ (frames : List (List ℕ)). Covers machine.member moment (remembered machine.member 1 machine.sent) first (last + 1) frames) (sym replies) covers
