-- What every input keeps.
use Rattle.std.proofs.Common.{◌≡◌, ℕ, ◌+◌, ◌≤◌, Bool, true, false, cond, eqb, List, [], ◌∷◌, ◌++◌, length, Option, Some, None, Result, Ok, Err, refl, sym, ◌∙◌, ap, subst, arith}
use Rattle.std.specs.Prelude.{ℤ, option_map}
use Rattle.fix_fields.specs.declared.field.Field.{Field}
use Rattle.fix_fields.specs.declared.field.FieldFault.{FieldFault}
use Rattle.fix_fields.specs.Fields.{split}
use Rattle.fix_write.specs.declared.message_type.MessageType.{MessageType}
use Rattle.fix_write.specs.declared.message_type.MessageType.TheVariants.{Logon}
use Rattle.session_core.specs.declared.tags.TheConstants.{RESET_SEQ_NUM_FLAG}
use Rattle.session_core.specs.declared.message.Request.{Request}
use Rattle.session_core.specs.declared.plan.Plan.{Plan}
use Rattle.session_core.specs.declared.plan.RequestHead.{RequestHead}
use Rattle.session_core.specs.declared.runs.Input.{Input}
use Rattle.session_core.specs.declared.runs.Input.TheVariants.{Connection, Frame, TooLong, Tick, Send, Reject}
use Rattle.session_core.specs.declared.state.State.{State}
use Rattle.session_core.specs.declared.turn.Turn.{Turn}
use Rattle.fix_fields.specs.Content.{content_of}
use Rattle.session_core.specs.Lookup.{is_yes, kind_of, message_number}
use Rattle.session_core.specs.State.{is_up, is_over, heard}
use Rattle.session_core.specs.Machine.{Machine, Outcome, carried_out, sent_now, replies_of, request_of, plan_for, on_fields, on_frame, on_clock, on_overlong, on_send, on_reject}
use Rattle.session_core.specs.Runs.{outcome_of, without_memory}
use Rattle.message_laws.specs.Sessions.{is_reset_logon, asks_reset, is_reset, ExpectedStaysOrRises, number_of_request, numbers_handed_out, Ascend, HandedOutOnce}
use Rattle.message_laws.proofs.Planning.{Facts, asked_again, plan_facts, tick_facts, too_long_facts}

-- the number that is to come does not fall, and what is handed out has that number and raises it
pub record Keeps (machine : Machine) (outcome : Outcome) : Type 0 where
  pub next : machine.state.next_in ≤ outcome.machine.state.next_in
  pub request : (request : Request) → outcome.turn.request ≡ Some request → (request.number ≡ machine.state.next_in) × (outcome.machine.state.next_in ≡ machine.state.next_in + 1)

pub sent_now-next : (moment : ℤ) (replies : List (List ℕ)) (state : State) → (sent_now moment replies state).next_in ≡ state.next_in
sent_now-next moment replies state =
    elim (eqb (length replies) 0) as (λ b. (cond b state (record state { sent_at = moment })).next_in ≡ state.next_in) [ true ↦ refl | false ↦ refl ]

request_number : (base after : ℕ) (fields : List Field) (asked : Option RequestHead) → ((head : RequestHead) → asked ≡ Some head → (head.number ≡ base) × (after ≡ base + 1)) → (request : Request) → option_map (request_of fields) asked ≡ Some request → (request.number ≡ base) × (after ≡ base + 1)
request_number base after fields None heads request h = absurd (cc)
request_number base after fields (Some head) heads request h =
    let own = heads head refl in
    let same : request_of fields head ≡ request = cc in
    (ap (λ (r : Request). r.number) (sym same) ∙ own.0, own.1)

carried_keeps : (machine : Machine) (moment : ℤ) (fields : List Field) (sent : ℕ) (again : Bool) (plan : Plan) → Facts machine.state.next_in sent again plan → Keeps machine (carried_out machine moment fields plan)
unfolding carried_out
carried_keeps machine moment fields sent again plan f =
    let same = sent_now-next moment (replies_of machine moment plan) plan.state in
    record {
      next = omega (arith, f.next, same);
      request = λ request h. (let own = request_number machine.state.next_in plan.state.next_in fields plan.request f.request request h in (own.0, same ∙ own.1));
    }

-- nothing is handed out, and the number stays
quiet_keeps : (machine : Machine) (outcome : Outcome) → outcome.machine.state.next_in ≡ machine.state.next_in → outcome.turn.request ≡ None → Keeps machine outcome
quiet_keeps machine outcome same none = record { next = omega arith; request = λ request h. absurd (let x : None ≡ Some request = sym none ∙ h in cc) }

no_reset_next : (state : State) (fields : List Field) (kind : MessageType) → kind ≡ Logon → is_reset_logon kind fields ≡ false → state.next_in ≤ cond (is_yes RESET_SEQ_NUM_FLAG fields) 1 state.next_in
no_reset_next state fields kind is h =
    let none : is_yes RESET_SEQ_NUM_FLAG fields ≡ false = rw is at h in rw none (omega arith)

fields_keep : (machine : Machine) (moment : ℤ) (found : Result (List Field) FieldFault) → asks_reset found ≡ false → Keeps machine (on_fields machine moment found)
fields_keep machine moment (Err fault) h = quiet_keeps machine _ refl refl
fields_keep machine moment (Ok fields) h =
    let state = heard moment machine.state in
    carried_keeps machine moment fields (length machine.sent) (asked_again state fields) (plan_for machine state fields (message_number fields))
    (plan_facts machine.state.next_in machine state fields (message_number fields) (omega arith) (λ _. refl)
    (λ down e n. no_reset_next machine.state fields (kind_of fields) e h))

choose_keeps : (machine : Machine) (b : Bool) (x y : Outcome) → Keeps machine x → Keeps machine y → Keeps machine (cond b x y)
choose_keeps machine true x y f g = f
choose_keeps machine false x y f g = g

pub input_keeps : (machine : Machine) (input : Input) → is_reset input ≡ false → Keeps machine (outcome_of machine input)
unfolding on_frame on_overlong on_clock on_send on_reject
input_keeps machine Connection h = quiet_keeps machine _ refl refl
input_keeps machine (Frame frame moment) h =
    choose_keeps machine (is_over machine.state.phase) _ _ (quiet_keeps machine _ refl refl) (fields_keep machine moment (split (content_of frame)) h)
input_keeps machine (TooLong moment) h =
    choose_keeps machine (is_over machine.state.phase) _ _ (quiet_keeps machine _ refl refl) (carried_keeps machine moment [] (length machine.sent) false _ (too_long_facts (length machine.sent) machine.state))
input_keeps machine (Tick moment) h =
    choose_keeps machine (is_up machine.state) _ _ (carried_keeps machine moment [] (length machine.sent) false _ (tick_facts (length machine.sent) moment machine.state)) (quiet_keeps machine _ refl refl)
input_keeps machine (Send messages moment) h =
    choose_keeps machine (is_up machine.state) _ _ (quiet_keeps machine (on_send machine messages moment) (sent_now-next moment _ machine.state) refl) (quiet_keeps machine _ refl refl)
input_keeps machine (Reject number kind tag reason moment) h =
    choose_keeps machine (is_up machine.state) _ _ (quiet_keeps machine (on_reject machine number kind tag reason moment) refl refl) (quiet_keeps machine _ refl refl)

without-next : (machine : Machine) (input : Input) → (without_memory machine input).state.next_in ≡ machine.state.next_in
without-next machine Connection = refl
without-next machine (Frame frame moment) = refl
without-next machine (TooLong moment) = refl
without-next machine (Tick moment) = refl
without-next machine (Send messages moment) = refl
without-next machine (Reject number kind tag reason moment) = refl

-- ---- over every list of inputs

pub expected_stays_or_rises : ExpectedStaysOrRises
expected_stays_or_rises machine [] [] last none follows = let same : last.state.next_in ≡ machine.state.next_in = ap (λ (m : Machine). m.state.next_in) follows in omega arith
expected_stays_or_rises machine [] (answer ∷ answers) last none follows = absurd follows
expected_stays_or_rises machine (input ∷ inputs) [] last none follows = absurd follows
expected_stays_or_rises machine (input ∷ inputs) (Ok turn ∷ answers) last none follows =
    let more = expected_stays_or_rises (outcome_of machine input).machine inputs answers last none.1 follows.1 in
    omega (arith, more, (input_keeps machine input none.0).next)
expected_stays_or_rises machine (input ∷ inputs) (Err no_memory ∷ answers) last none follows =
    let more = expected_stays_or_rises (without_memory machine input) inputs answers last none.1 follows.1 in
    omega (arith, more, without-next machine input)

weaken : (low high : ℕ) (numbers : List ℕ) → low ≤ high → Ascend high numbers → Ascend low numbers
weaken low high [] l a = tt
weaken low high (number ∷ numbers) l a = (omega (arith, a.0), a.1)

ascend_on : (base after : ℕ) (request : Option Request) (numbers : List ℕ) → base ≤ after → ((r : Request) → request ≡ Some r → (r.number ≡ base) × (after ≡ base + 1)) → Ascend after numbers → Ascend base (number_of_request request ++ numbers)
ascend_on base after None numbers low asked a = weaken base after numbers low a
ascend_on base after (Some r) numbers low asked a =
    let own = asked r refl in
    let next : after ≡ r.number + 1 = omega (arith, own.0, own.1) in
    (omega (arith, own.0), subst (λ (n : ℕ). Ascend n numbers) next a)

pub handed_out_once : HandedOutOnce
handed_out_once machine [] [] last none follows = tt
handed_out_once machine [] (answer ∷ answers) last none follows = absurd follows
handed_out_once machine (input ∷ inputs) [] last none follows = absurd follows
handed_out_once machine (input ∷ inputs) (Ok turn ∷ answers) last none follows =
    let more = handed_out_once (outcome_of machine input).machine inputs answers last none.1 follows.1 in
    let keeps = input_keeps machine input none.0 in
    let same : turn.request ≡ (outcome_of machine input).turn.request = ap (λ (t : Turn). t.request) follows.0 in
    ascend_on machine.state.next_in (outcome_of machine input).machine.state.next_in turn.request (numbers_handed_out answers) keeps.next (λ r e. keeps.request r (sym same ∙ e)) more
handed_out_once machine (input ∷ inputs) (Err no_memory ∷ answers) last none follows =
    let more = handed_out_once (without_memory machine input) inputs answers last none.1 follows.1 in
    subst (λ (n : ℕ). Ascend n (numbers_handed_out answers)) (without-next machine input) more
