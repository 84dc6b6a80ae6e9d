-- Sessions that differ only in what they sent go on so.
use Rattle.std.proofs.Common.{◌≡◌, List, [], Option, None, Some, Result, Ok, Err, Bool, true, false, cond, refl, sym, ◌∙◌, ap, subst, arith}
use Rattle.std.specs.Prelude.{ℕ, ℤ, length, option_map}
use Rattle.fix_fields.specs.declared.field.Field.{Field}
use Rattle.fix_fields.specs.declared.field.FieldFault.{FieldFault}
use Rattle.fix_fields.specs.Fields.{split}
use Rattle.fix_write.specs.declared.message_type.MessageType.{MessageType}
use Rattle.session_core.specs.declared.plan.Plan.{Plan}
use Rattle.session_core.specs.declared.message.Message.{Message}
use Rattle.session_core.specs.declared.runs.Input.{Input}
use Rattle.session_core.specs.declared.runs.Input.TheVariants.{Connection, Frame, TooLong, Tick, Send, Reject}
use Rattle.session_core.specs.declared.state.State.{State}
use Rattle.session_core.specs.declared.state.Phase.TheVariants.{New, Ended}
use Rattle.session_core.specs.Lookup.{message_number}
use Rattle.fix_fields.specs.Content.{content_of}
use Rattle.session_core.specs.State.{is_up, is_up_phase, is_over, cause_of, heard}
use Rattle.session_core.specs.Machine.{Machine, Outcome, rests, connected, given_up, sent_now, request_of, incoming, plan_for, carried_out, on_fields, on_frame, on_clock, on_overlong, on_send, on_reject}
use Rattle.session_core.specs.Runs.{outcome_of, send_if_up, reject_if_up}
use Rattle.session_core.specs.Alike.{but_for_sent, AreAlike, GiveAlike, is_sent}
use Rattle.session_core.specs.AlikePlans.{ArePlannedAlike, sent_at, no_number-alike, message-alike, too_long-alike, tick-alike}

-- a session that sent something else
abbrev having_sent : Machine → Machine → Machine
having_sent a b = record { member = b.member; state = sent_at b.state a.state.sent_at; sent = a.sent }

is_having_sent : (a b : Machine) → AreAlike a b → having_sent a b ≡ a
is_having_sent a b alike =
    let state : sent_at b.state a.state.sent_at ≡ a.state = ap (λ (s : State). sent_at s a.state.sent_at) (sym alike.state) in
    let member : b.member ≡ a.member = sym alike.member in
    λ k. record { member = member k; state = state k; sent = a.sent }

-- so what is shown for one that sent something else holds for all alike ones
for_alike : (f : Machine → Outcome) → ((a b : Machine) → GiveAlike (f (having_sent a b)) (f b)) → (a b : Machine) → AreAlike a b → GiveAlike (f a) (f b)
for_alike f h a b alike = subst (λ (m : Machine). GiveAlike (f m) (f b)) (is_having_sent a b alike) (h a b)

-- what was sent is all that is remembered of sending
sent_now-alike : (moment : ℤ) (replies : List (List ℕ)) (state : State) → but_for_sent (sent_now moment replies state) ≡ but_for_sent state
sent_now-alike moment replies state = grind arith

-- plans that are alike, carried out
carried_out-alike : (a b : Machine) (moment : ℤ) (fields : List Field) (p q : Plan) → a.member ≡ b.member → ArePlannedAlike p q
    → GiveAlike (carried_out a moment fields p) (carried_out b moment fields q)
unfolding carried_out
carried_out-alike a b moment fields p q member planned = record {
  machines = record {
    member = member;
    state = sent_now-alike moment _ p.state ∙ planned.state ∙ sym (sent_now-alike moment _ q.state);
  };
  request = ap (option_map (request_of fields)) planned.request;
  ended = ap (λ (s : State). cause_of s.phase) planned.state;
}

rests-alike : (a b : Machine) → AreAlike a b → GiveAlike (rests a) (rests b)
rests-alike a b alike = record { machines = alike; request = refl; ended = ap (λ (s : State). cause_of s.phase) alike.state }

sent_otherwise : (a b : Machine) → AreAlike (having_sent a b) b
sent_otherwise a b = record { member = refl; state = refl }

cond-alike : (test : Bool) (a b c d : Outcome) → GiveAlike a b → GiveAlike c d → GiveAlike (cond test a c) (cond test b d)
cond-alike true a b c d h k = h
cond-alike false a b c d h k = k

plan_for-alike : (a b : Machine) (moment : ℤ) (fields : List Field) (number : Option ℕ)
    → ArePlannedAlike (plan_for (having_sent a b) (heard moment (having_sent a b).state) fields number) (plan_for b (heard moment b.state) fields number)
plan_for-alike a b moment fields None = no_number-alike (heard moment b.state) a.state.sent_at
plan_for-alike a b moment fields (Some number) = message-alike b.member (heard moment b.state) a.state.sent_at (incoming number fields) (length a.sent) (length b.sent)

on_fields-alike : (a b : Machine) (moment : ℤ) (found : Result (List Field) FieldFault) → GiveAlike (on_fields (having_sent a b) moment found) (on_fields b moment found)
on_fields-alike a b moment (Err fault) = rests-alike (having_sent a b) b (sent_otherwise a b)
on_fields-alike a b moment (Ok fields) =
    carried_out-alike (having_sent a b) b moment fields _ _ refl (plan_for-alike a b moment fields (message_number fields))

frame-sent : (frame : List ℕ) (moment : ℤ) (a b : Machine) → GiveAlike (on_frame (having_sent a b) frame moment) (on_frame b frame moment)
unfolding on_frame
frame-sent frame moment a b =
    cond-alike (is_over b.state.phase) _ _ _ _ (rests-alike (having_sent a b) b (sent_otherwise a b)) (on_fields-alike a b moment (split (content_of frame)))

-- a frame
pub frame-alike : (a b : Machine) (frame : List ℕ) (moment : ℤ) → AreAlike a b → GiveAlike (on_frame a frame moment) (on_frame b frame moment)
frame-alike a b frame moment alike = for_alike (λ m. on_frame m frame moment) (frame-sent frame moment) a b alike

clock-sent : (moment : ℤ) (a b : Machine) → GiveAlike (on_clock (having_sent a b) moment) (on_clock b moment)
unfolding on_clock
clock-sent moment a b =
    cond-alike (is_up_phase b.state.phase) _ _ _ _
    (carried_out-alike (having_sent a b) b moment [] _ _ refl (tick-alike moment b.state a.state.sent_at))
    (rests-alike (having_sent a b) b (sent_otherwise a b))

-- the clock
pub clock-alike : (a b : Machine) (moment : ℤ) → AreAlike a b → GiveAlike (on_clock a moment) (on_clock b moment)
clock-alike a b moment alike = for_alike (λ m. on_clock m moment) (clock-sent moment) a b alike

overlong-sent : (moment : ℤ) (a b : Machine) → GiveAlike (on_overlong (having_sent a b) moment) (on_overlong b moment)
unfolding on_overlong
overlong-sent moment a b =
    cond-alike (is_over b.state.phase) _ _ _ _ (rests-alike (having_sent a b) b (sent_otherwise a b))
    (carried_out-alike (having_sent a b) b moment [] _ _ refl (too_long-alike b.state a.state.sent_at))

-- a frame that is too long
pub overlong-alike : (a b : Machine) (moment : ℤ) → AreAlike a b → GiveAlike (on_overlong a moment) (on_overlong b moment)
overlong-alike a b moment alike = for_alike (λ m. on_overlong m moment) (overlong-sent moment) a b alike

-- a new connection
pub connected-alike : (a b : Machine) → AreAlike a b → AreAlike (connected a) (connected b)
connected-alike a b alike = record { member = alike.member; state = ap (λ (s : State). record s { phase = New }) alike.state }

-- want of memory
pub given_up-alike : (a b : Machine) → AreAlike a b → AreAlike (given_up a) (given_up b)
given_up-alike a b alike = record { member = alike.member; state = ap (λ (s : State). record s { phase = Ended None }) alike.state }

-- both are up, or none is
pub up-alike : (a b : Machine) → AreAlike a b → is_up a.state ≡ is_up b.state
up-alike a b alike = ap (λ (s : State). is_up s) alike.state

-- ---- what is sent changes nothing of what is received

-- one alone sends messages
pub sends-alike : (a b : Machine) (messages : List Message) (moment : ℤ) → AreAlike a b → AreAlike (on_send a messages moment).machine b
unfolding on_send
sends-alike a b messages moment alike = record { member = alike.member; state = sent_now-alike moment _ a.state ∙ alike.state }

-- or a Reject
pub rejects-alike : (a b : Machine) (number : ℕ) (kind : MessageType) (tag reason : ℕ) (moment : ℤ) → AreAlike a b → AreAlike (on_reject a number kind tag reason moment).machine b
unfolding on_reject
rejects-alike a b number kind tag reason moment alike = record { member = alike.member; state = alike.state }

if-alike : (test : Bool) (outcome : Outcome) (a b : Machine) → AreAlike outcome.machine b → AreAlike a b → AreAlike (cond test outcome (rests a)).machine b
if-alike true outcome a b h k = h
if-alike false outcome a b h k = k

-- where the session is up
pub sends_if_up-alike : (a b : Machine) (messages : List Message) (moment : ℤ) → AreAlike a b → AreAlike (send_if_up a messages moment).machine b
sends_if_up-alike a b messages moment alike = if-alike (is_up a.state) _ a b (sends-alike a b messages moment alike) alike

pub rejects_if_up-alike : (a b : Machine) (number : ℕ) (kind : MessageType) (tag reason : ℕ) (moment : ℤ) → AreAlike a b → AreAlike (reject_if_up a number kind tag reason moment).machine b
rejects_if_up-alike a b number kind tag reason moment alike = if-alike (is_up a.state) _ a b (rejects-alike a b number kind tag reason moment alike) alike

-- ---- alike in any order of the two

pub alike-sym : (a b : Machine) → AreAlike a b → AreAlike b a
alike-sym a b alike = record { member = sym alike.member; state = sym alike.state }

pub alike-trans : (a b c : Machine) → AreAlike a b → AreAlike b c → AreAlike a c
alike-trans a b c ab bc = record { member = ab.member ∙ bc.member; state = ab.state ∙ bc.state }

pub alike-self : (a : Machine) → AreAlike a a
alike-self a = record { member = refl; state = refl }

-- both send
both : (a b c d : Machine) → AreAlike a b → AreAlike c a → AreAlike d b → AreAlike c d
both a b c d ab ca db = alike-trans c b d (alike-trans c a b ca ab) (alike-sym d b db)

-- ---- every input

-- nothing is handed out, and it ends as before
record IsQuiet (a : Machine) (outcome : Outcome) : Type 0 where
  request : outcome.turn.request ≡ None
  ended : outcome.turn.ended ≡ cause_of a.state.phase

send-quiet : (a : Machine) (messages : List Message) (moment : ℤ) → IsQuiet a (on_send a messages moment)
unfolding on_send
send-quiet a messages moment = record { request = refl; ended = refl }

reject-quiet : (a : Machine) (number : ℕ) (kind : MessageType) (tag reason : ℕ) (moment : ℤ) → IsQuiet a (on_reject a number kind tag reason moment)
unfolding on_reject
reject-quiet a number kind tag reason moment = record { request = refl; ended = refl }

if-quiet : (test : Bool) (a : Machine) (outcome : Outcome) → IsQuiet a outcome → IsQuiet a (cond test outcome (rests a))
if-quiet true a outcome h = h
if-quiet false a outcome h = record { request = refl; ended = refl }

quiet-alike : (a b : Machine) (o p : Outcome) → AreAlike a b → AreAlike o.machine a → AreAlike p.machine b → IsQuiet a o → IsQuiet b p → GiveAlike o p
quiet-alike a b o p ab oa pb qo qp = record {
  machines = both a b o.machine p.machine ab oa pb;
  request = qo.request ∙ sym qp.request;
  ended = qo.ended ∙ ap (λ (s : State). cause_of s.phase) ab.state ∙ sym qp.ended;
}

pub alike_stay : (a b : Machine) (input : Input) → AreAlike a b → GiveAlike (outcome_of a input) (outcome_of b input)
alike_stay a b Connection alike = rests-alike (connected a) (connected b) (connected-alike a b alike)
alike_stay a b (Frame frame moment) alike = frame-alike a b frame moment alike
alike_stay a b (TooLong moment) alike = overlong-alike a b moment alike
alike_stay a b (Tick moment) alike = clock-alike a b moment alike
alike_stay a b (Send messages moment) alike =
    quiet-alike a b _ _ alike (sends_if_up-alike a a messages moment (alike-self a)) (sends_if_up-alike b b messages moment (alike-self b))
    (if-quiet (is_up a.state) a _ (send-quiet a messages moment)) (if-quiet (is_up b.state) b _ (send-quiet b messages moment))
alike_stay a b (Reject number kind tag reason moment) alike =
    quiet-alike a b _ _ alike (rejects_if_up-alike a a number kind tag reason moment (alike-self a)) (rejects_if_up-alike b b number kind tag reason moment (alike-self b))
    (if-quiet (is_up a.state) a _ (reject-quiet a number kind tag reason moment)) (if-quiet (is_up b.state) b _ (reject-quiet b number kind tag reason moment))

pub sending_is_alike : (a b : Machine) (input : Input) → is_sent input ≡ true → AreAlike a b → AreAlike (outcome_of a input).machine b
sending_is_alike a b Connection sent alike = absurd (cc)
sending_is_alike a b (Frame frame moment) sent alike = absurd (cc)
sending_is_alike a b (TooLong moment) sent alike = absurd (cc)
sending_is_alike a b (Tick moment) sent alike = absurd (cc)
sending_is_alike a b (Send messages moment) sent alike = sends_if_up-alike a b messages moment alike
sending_is_alike a b (Reject number kind tag reason moment) sent alike = rejects_if_up-alike a b number kind tag reason moment alike
