-- What every plan keeps: the number that is to come, what is handed out, what is sent again, and when numbers begin again.
use Rattle.std.proofs.Common.{◌≡◌, ℕ, ◌+◌, ◌<◌, ◌≤◌, Bool, true, false, not, ◌&&◌, ◌||◌, cond, eqb, leb, ltb, List, [], Option, Some, None, refl, sym, ap, subst, arith, rules}
use Rattle.std.specs.Prelude.{ℤ, length}
use Rattle.std.proofs.lemmas.Bool.{leb-true, ltb-false}
use Rattle.std.proofs.lemmas.Bool.Decides.{nat_tests}
use Rattle.fix_fields.specs.declared.field.Field.{Field}
use Rattle.session_core.specs.declared.message.Message.{Message}
use Rattle.fix_write.specs.declared.message_type.MessageType.{MessageType}
use Rattle.fix_write.specs.declared.message_type.MessageType.TheVariants.{TestRequest, ResendRequest, SequenceReset, Heartbeat, Reject, Logout, Logon}
use Rattle.session_core.specs.declared.tags.TheConstants.{RESET_SEQ_NUM_FLAG}
use Rattle.session_core.specs.declared.plan.Span.{Span}
use Rattle.session_core.specs.declared.plan.RequestHead.{RequestHead}
use Rattle.session_core.specs.declared.plan.Plan.{Plan}
use Rattle.session_core.specs.declared.state.State.{State}
use Rattle.session_core.specs.Lookup.{is_yes, is_value, kind_of}
use Rattle.session_core.specs.Machine.{Machine, incoming, plan_for}
use Rattle.venue_words.specs.Limits.{venue}
use Rattle.fix_write.specs.declared.tags.TheConstants.{SENDER_COMP_ID, TARGET_COMP_ID}
use Rattle.session_core.specs.Logon.{next_of_logon, takes_logon, on_logon, before_logon}
use Rattle.session_core.specs.declared.state.EndCause.TheVariants.{NotLogon}
use Rattle.session_core.specs.State.{is_up, is_up_phase, ended}
use Rattle.session_core.specs.Plan.{says, hands_out, sends_again}
use Rattle.session_core.specs.Answers.{logs_out, drops, rejects, unless_failed, drops_wrong_name}
use Rattle.session_core.specs.Resend.{last_of, resends, on_resend_request, then_asks_again}
use Rattle.session_core.specs.Sequence.{sets_next, on_reset, on_logout, too_low, resends_early, too_early, answers_test, by_type, in_turn, by_number, when_up}
use Rattle.message_laws.specs.Sessions.{is_reset_logon}
use Rattle.session_core.specs.Cases.{on_message, on_too_long, on_tick}

-- numbers from the first to the last, of which so many were sent
pub record IsWithin (sent first last : ℕ) : Type 0 where
  pub some : 0 < first
  pub order : first ≤ last
  pub most : last ≤ sent

-- what a plan keeps, from a number that was to come and so many messages sent; numbers begin again exactly where that was
-- asked and the session is up behind it
pub record Facts (base sent : ℕ) (again : Bool) (plan : Plan) : Type 0 where
  pub next : base ≤ plan.state.next_in
  pub request : (head : RequestHead) → plan.request ≡ Some head → (head.number ≡ base) × (plan.state.next_in ≡ base + 1)
  pub span : (span : Span) → plan.resend ≡ Some span → IsWithin sent span.first span.last
  pub reset : plan.reset ≡ (again && is_up_phase plan.state.phase)
  pub either : plan.reset ≡ true → plan.resend ≡ None

says_facts : (base sent : ℕ) (again : Bool) (state : State) (messages : List Message) → base ≤ state.next_in → false ≡ (again && is_up_phase state.phase) → Facts base sent again (says state messages)
says_facts base sent again state messages low none =
    record { next = low; request = λ head e. absurd (cc); span = λ span e. absurd (cc); reset = none; either = λ e. refl }

choose : (base sent : ℕ) (again : Bool) (b : Bool) (x y : Plan) → (b ≡ true → Facts base sent again x) → (b ≡ false → Facts base sent again y) → Facts base sent again (cond b x y)
choose base sent again true x y f g = f refl
choose base sent again false x y f g = g refl

at_least : (base least new : ℕ) → base ≤ least → leb least new ≡ true → base ≤ new
at_least base least new low h = let above : least ≤ new = leb-true least new h in omega arith

drops_facts : (base sent : ℕ) (state : State) (cause : _) (text : List ℕ) → base ≤ state.next_in → Facts base sent false (drops state cause text)
unfolding drops logs_out
drops_facts base sent state cause text low = search (rules, choose, says_facts)

-- before the Logon nothing is sent where the connection ends
none_again : (again : Bool) → false ≡ (again && false)
none_again true = refl
none_again false = refl

wrong_name_facts : (base sent : ℕ) (again : Bool) (state : State) (message : _) (tag : ℕ) → base ≤ state.next_in → Facts base sent again (drops_wrong_name state message tag)
unfolding drops_wrong_name
wrong_name_facts base sent again state message tag low = search (rules, choose, says_facts, none_again)

rejects_facts : (base sent : ℕ) (state : State) (message : _) (tag reason : ℕ) → base ≤ state.next_in → Facts base sent false (rejects state message tag reason)
unfolding rejects
rejects_facts base sent state message tag reason low = search (rules, says_facts)

unless_failed_facts : (base sent : ℕ) (state : State) (message : _) (failed : Option _) (plan : Plan) → base ≤ state.next_in → Facts base sent false plan → Facts base sent false (unless_failed state message failed plan)
unless_failed_facts base sent state message None plan low facts = facts
unless_failed_facts base sent state message (Some failed) plan low facts = rejects_facts base sent state message failed.tag failed.reason low

-- ---- what is sent again lies within what was sent

first_some : (first sent : ℕ) → ((eqb first 0) || ltb sent first) ≡ false → (0 < first) × (first ≤ sent)
first_some first sent h = (grind (arith, nat_tests), grind (arith, nat_tests))

pub last_from : (first last sent : ℕ) → first ≤ sent → (not (eqb last 0) && ltb last first) ≡ false → (first ≤ cond ((eqb last 0) || ltb sent last) sent last) × (cond ((eqb last 0) || ltb sent last) sent last ≤ sent)
last_from first last sent l h = (grind (arith, nat_tests), grind (arith, nat_tests))

again_facts : (base sent : ℕ) (state : State) (asked : Span) → base ≤ state.next_in → ((eqb asked.first 0) || ltb sent asked.first) ≡ false → (not (eqb asked.last 0) && ltb asked.last asked.first) ≡ false → Facts base sent false (sends_again state (record { first = asked.first; last = last_of asked sent }))
again_facts base sent state asked low t1 t2 =
    let f = first_some asked.first sent t1 in
    let l = last_from asked.first asked.last sent f.1 t2 in
    let within : IsWithin sent asked.first (last_of asked sent) = record { some = f.0; order = l.0; most = l.1 } in
    let own : Span = record { first = asked.first; last = last_of asked sent } in
    record {
      next = low;
      request = λ head e. absurd (cc);
      span = λ span e. let same : own ≡ span = cc in subst (λ (s : Span). IsWithin sent s.first s.last) same within;
      reset = refl;
      either = λ e. absurd (cc);
    }

resends_facts : (base sent : ℕ) (state : State) (message : _) (asked : Span) → base ≤ state.next_in → Facts base sent false (resends state message sent asked)
unfolding resends
resends_facts base sent state message asked low = search (rules, choose, rejects_facts, again_facts)

resend_request_facts : (base sent : ℕ) (state : State) (message : _) → base ≤ state.next_in → Facts base sent false (on_resend_request state message sent)
unfolding on_resend_request
resend_request_facts base sent state message low = resends_facts base sent state message _ low

asks_again_facts : (base sent : ℕ) (plan : Plan) (next : ℕ) → Facts base sent false plan → Facts base sent false (then_asks_again plan next)
asks_again_facts base sent plan next f = record { next = f.next; request = f.request; span = f.span; reset = f.reset; either = f.either }

-- ---- a message of a session that is up

sets_facts : (base sent : ℕ) (state : State) (message : _) (least : ℕ) → base ≤ least → base ≤ state.next_in → Facts base sent false (sets_next state message least)
unfolding sets_next
sets_facts base sent state message least low state_low =
    search (rules, choose, says_facts, rejects_facts, at_least)

reset_facts : (base sent : ℕ) (state : State) (message : _) → base ≤ state.next_in → Facts base sent false (on_reset state message)
unfolding on_reset
reset_facts base sent state message low = search (rules, unless_failed_facts, sets_facts)

logout_facts : (base sent : ℕ) (state : State) (message : _) → base ≤ state.next_in → Facts base sent false (on_logout state message)
unfolding on_logout logs_out
logout_facts base sent state message low = search (rules, unless_failed_facts, says_facts)

low_facts : (base sent : ℕ) (state : State) (message : _) → base ≤ state.next_in → Facts base sent false (too_low state message)
unfolding too_low logs_out
low_facts base sent state message low = search (rules, choose, says_facts)

resends_early_facts : (base sent : ℕ) (state : State) (message : _) → base ≤ state.next_in → Facts base sent false (resends_early state message sent)
unfolding resends_early
resends_early_facts base sent state message low =
    search (rules, choose, says_facts, asks_again_facts, resend_request_facts)

early_facts : (kind : MessageType) (base sent : ℕ) (state : State) (message : _) → base ≤ state.next_in → Facts base sent false (too_early kind state message sent)
unfolding too_early
early_facts Logout base sent state message low = logout_facts base sent state message low
early_facts ResendRequest base sent state message low = resends_early_facts base sent state message low
early_facts _ base sent state message low = says_facts base sent false state _ low refl

-- the message that was to come, where the state has the number behind it
hands_out_facts : (base sent : ℕ) (state : State) (message : _) (plan : Plan) → plan ≡ hands_out state message → message.number ≡ base → state.next_in ≡ base + 1 → Facts base sent false plan
hands_out_facts base sent state message plan is own next =
    let facts : Facts base sent false (hands_out state message) = record {
      next = omega arith;
      request = λ head e. (let same : message.number ≡ head.number = cc in omega arith, next);
      span = λ span e. absurd (cc);
      reset = refl;
      either = λ e. absurd (cc);
    } in
    subst (λ (p : Plan). Facts base sent false p) (sym is) facts

answers_facts : (base sent : ℕ) (state : State) (message : _) → base ≤ state.next_in → Facts base sent false (answers_test state message)
unfolding answers_test
answers_facts base sent state message low = search (rules, says_facts)

same_facts : (base sent : ℕ) (plan other : Plan) → plan ≡ other → Facts base sent false other → Facts base sent false plan
same_facts base sent plan other is facts = subst (λ (p : Plan). Facts base sent false p) (sym is) facts

type_facts : (kind : MessageType) (base sent : ℕ) (state : State) (message : _) (plan : Plan) → plan ≡ by_type kind state message sent → message.number ≡ base → state.next_in ≡ base + 1 → Facts base sent false plan
unfolding by_type logs_out
type_facts Heartbeat base sent state message plan is own next =
    same_facts base sent plan _ is (says_facts base sent false state [] (omega arith) refl)
type_facts Reject base sent state message plan is own next =
    same_facts base sent plan _ is (says_facts base sent false state [] (omega arith) refl)
type_facts TestRequest base sent state message plan is own next =
    same_facts base sent plan _ is (answers_facts base sent state message (omega arith))
type_facts ResendRequest base sent state message plan is own next =
    same_facts base sent plan _ is (resend_request_facts base sent state message (omega arith))
type_facts SequenceReset base sent state message plan is own next =
    same_facts base sent plan _ is (sets_facts base sent state message (message.number + 1) (omega arith) (omega arith))
type_facts Logout base sent state message plan is own next =
    same_facts base sent plan _ is (says_facts base sent false _ _ (omega arith) refl)
type_facts Logon base sent state message plan is own next =
    same_facts base sent plan _ is (rejects_facts base sent state message _ _ (omega arith))
type_facts _ base sent state message plan is own next = hands_out_facts base sent state message plan is own next

turn_facts : (base sent : ℕ) (state : State) (message : _) (plan : Plan) → plan ≡ in_turn state message sent → message.number ≡ base → state.next_in ≡ base + 1 → Facts base sent false plan
unfolding in_turn
turn_facts base sent state message plan is own next =
    let low : base ≤ state.next_in = omega arith in
    let out = hands_out_facts base sent state message (hands_out state message) refl own next in
    let typed = type_facts message.kind base sent state message (by_type message.kind state message sent) refl own next in
    let facts : Facts base sent false (in_turn state message sent) = search (rules, choose, unless_failed_facts, out, typed) in
    subst (λ (p : Plan). Facts base sent false p) (sym is) facts

same_number : (a b : ℕ) → ltb a b ≡ false → ltb b a ≡ false → a ≡ b
same_number a b h k = omega (arith, ltb-false a b h, ltb-false b a k)

number_facts : (sent : ℕ) (state : State) (message : _) → Facts state.next_in sent false (by_number state message sent)
unfolding by_number
number_facts sent state message =
    let low : state.next_in ≤ state.next_in = omega arith in
    choose state.next_in sent false (ltb message.number state.next_in) (too_low state message) (cond (ltb state.next_in message.number) (too_early message.kind state message sent) (in_turn (record state { next_in = message.number + 1 }) message sent))
    (λ _. low_facts state.next_in sent state message low)
    (λ not_low. choose state.next_in sent false (ltb state.next_in message.number) (too_early message.kind state message sent) (in_turn (record state { next_in = message.number + 1 }) message sent)
    (λ _. early_facts message.kind state.next_in sent state message low)
    (λ not_early.
    let own : message.number ≡ state.next_in = same_number message.number state.next_in not_low not_early in
    turn_facts state.next_in sent (record state { next_in = message.number + 1 }) message (in_turn (record state { next_in = message.number + 1 }) message sent) refl own (ap (λ (n : ℕ). n + 1) own)))

up_facts : (sent : ℕ) (state : State) (message : _) → Facts state.next_in sent false (when_up state message sent)
unfolding when_up
up_facts sent state message =
    let low : state.next_in ≤ state.next_in = omega arith in search (rules, choose, reset_facts, number_facts)

-- ---- a message before the Logon

and_true : (b : Bool) → b ≡ (b && true)
and_true true = refl
and_true false = refl

number_rises : (base next number : ℕ) → base ≤ next → base ≤ cond (eqb number next) (number + 1) next
number_rises base next number low = grind (arith, nat_tests)

taken_facts : (base sent : ℕ) (state : State) (message : _) (flag : Bool) → base ≤ next_of_logon state message → Facts base sent flag (takes_logon state message flag (next_of_logon state message))
unfolding takes_logon
taken_facts base sent state message flag low = record {
  next = number_rises base (next_of_logon state message) message.number low;
  request = λ head e. absurd (cc);
  span = λ span e. absurd (cc);
  reset = and_true flag;
  either = λ e. refl;
}

logon_facts : (base sent : ℕ) (state : State) (message : _) → base ≤ state.next_in → base ≤ next_of_logon state message → Facts base sent (is_yes RESET_SEQ_NUM_FLAG message.fields) (on_logon state message)
unfolding on_logon logs_out
logon_facts base sent state message low least = search (rules, choose, says_facts, none_again, taken_facts)

before_facts : (kind : MessageType) (base sent : ℕ) (state : State) (message : _) → base ≤ state.next_in → (kind ≡ Logon → base ≤ next_of_logon state message) → Facts base sent (is_reset_logon kind message.fields) (before_logon kind state message)
unfolding before_logon
before_facts Logon base sent state message low least = logon_facts base sent state message low (least refl)
before_facts _ base sent state message low least = says_facts base sent false (ended NotLogon state) [] low refl

-- ---- every message

-- whether a message asks a session that is not up to begin its numbers again
abbrev pub asked_again : State → List Field → Bool
asked_again state fields = not (is_up state) && is_reset_logon (kind_of fields) fields

-- a session that is up, or not yet
in_phase : (base sent : ℕ) (state : State) (message : _) (flag : Bool) → (is_up state ≡ true → Facts base sent false (when_up state message sent)) → (is_up state ≡ false → Facts base sent flag (before_logon message.kind state message)) → Facts base sent (not (is_up state) && flag) (cond (is_up state) (when_up state message sent) (before_logon message.kind state message))
in_phase base sent state message flag up before =
    elim (is_up state) as (λ b. (is_up state ≡ b) → Facts base sent (not b && flag) (cond b (when_up state message sent) (before_logon message.kind state message))) [
      | true ↦ λ e. up e
      | false ↦ λ e. before e
    ] refl

message_facts : (base : ℕ) (member : List ℕ) (sent number : ℕ) (state : State) (fields : List Field) → base ≤ state.next_in → (is_up state ≡ true → base ≡ state.next_in) → (is_up state ≡ false → kind_of fields ≡ Logon → base ≤ next_of_logon state (incoming number fields)) → Facts base sent (asked_again state fields) (on_message member sent state (incoming number fields))
unfolding on_message
message_facts base member sent number state fields low same least =
    let again = asked_again state fields in
    let message = incoming number fields in
    choose base sent again (not (is_value SENDER_COMP_ID member fields)) (drops_wrong_name state message SENDER_COMP_ID)
    (cond (not (is_value TARGET_COMP_ID venue fields)) (drops_wrong_name state message TARGET_COMP_ID) (cond (is_up state) (when_up state message sent) (before_logon message.kind state message)))
    (λ _. wrong_name_facts base sent again state message SENDER_COMP_ID low)
    (λ _. choose base sent again (not (is_value TARGET_COMP_ID venue fields)) (drops_wrong_name state message TARGET_COMP_ID) (cond (is_up state) (when_up state message sent) (before_logon message.kind state message))
    (λ _. wrong_name_facts base sent again state message TARGET_COMP_ID low)
    (λ _. in_phase base sent state message (is_reset_logon (kind_of fields) fields)
    (λ up. subst (λ (n : ℕ). Facts n sent false (when_up state message sent)) (sym (same up)) (up_facts sent state message))
    (λ down. before_facts (kind_of fields) base sent state message low (least down))))

any_facts : (base sent : ℕ) (again : Bool) (state : State) (cause : _) (text : List ℕ) → base ≤ state.next_in → Facts base sent again (drops state cause text)
unfolding drops logs_out
any_facts base sent again state cause text low = search (rules, choose, says_facts, none_again)

pub plan_facts : (base : ℕ) (machine : Machine) (state : State) (fields : List Field) (number : Option ℕ) → base ≤ state.next_in → (is_up state ≡ true → base ≡ state.next_in) → (is_up state ≡ false → kind_of fields ≡ Logon → (n : ℕ) → base ≤ next_of_logon state (incoming n fields)) → Facts base (length machine.sent) (asked_again state fields) (plan_for machine state fields number)
plan_facts base machine state fields None low same least = any_facts base (length machine.sent) (asked_again state fields) state _ _ low
plan_facts base machine state fields (Some number) low same least =
    message_facts base machine.member (length machine.sent) number state fields low same (λ down e. least down e number)

pub tick_facts : (sent : ℕ) (moment : ℤ) (state : State) → Facts state.next_in sent false (on_tick moment state)
unfolding on_tick logs_out
tick_facts sent moment state =
    let low : state.next_in ≤ state.next_in = omega arith in search (rules, choose, says_facts) depth 10

pub too_long_facts : (sent : ℕ) (state : State) → Facts state.next_in sent false (on_too_long state)
unfolding on_too_long
too_long_facts sent state = drops_facts state.next_in sent state _ _ (omega arith)
