-- Every input's replies are as the ledger says.
use Rattle.std.proofs.Common.{◌≡◌, ℕ, ◌+◌, Bool, true, false, not, ◌&&◌, cond, List, [], ◌∷◌, ◌++◌, length, Option, Some, None, Result, Ok, Err, ◌⊎◌, inl, inr, refl, sym, ◌∙◌, ap, subst, arith}
use Rattle.std.specs.Prelude.{ℤ, replicate}
use Rattle.std.proofs.lemmas.List.{append-nil}
use Rattle.venue_words.specs.declared.refusal.NoMemory.{NoMemory}
use Rattle.fix_fields.specs.declared.field.Field.{Field}
use Rattle.fix_fields.specs.declared.field.FieldFault.{FieldFault}
use Rattle.fix_fields.specs.Fields.{split}
use Rattle.fix_write.specs.declared.message_type.MessageType.{MessageType}
use Rattle.fix_write.specs.MessageTypes.{byte_of}
use Rattle.session_core.specs.declared.message.Kept.{Kept}
use Rattle.session_core.specs.declared.message.Message.{Message}
use Rattle.session_core.specs.declared.plan.Plan.{Plan}
use Rattle.session_core.specs.declared.plan.Span.{Span}
use Rattle.session_core.specs.declared.runs.Input.{Input}
use Rattle.session_core.specs.declared.runs.Input.TheVariants.{Connection, Frame, TooLong, Tick, Send, Reject}
use Rattle.session_core.specs.declared.turn.Turn.{Turn}
use Rattle.session_core.specs.Bodies.{reject}
use Rattle.fix_fields.specs.Content.{content_of}
use Rattle.session_core.specs.Frames.{new_frame, new_frames, all_kept}
use Rattle.session_core.specs.Lookup.{message_number}
use Rattle.session_core.specs.Machine.{Machine, Outcome, carried_out, sent_before, sent_now, replies_of, plan_for, on_fields, on_frame, on_clock, on_overlong, on_send, on_reject, fresh, rests, connected}
use Rattle.session_core.specs.Resent.{frames_of_span}
use Rattle.session_core.specs.Runs.{outcome_of, without_memory, Follows}
use Rattle.session_core.specs.State.{is_up, is_up_phase, is_over, heard}
use Rattle.message_laws.specs.Sessions.{asks_reset, is_reset}
use Rattle.message_laws.specs.Numbers.{IsNew, begins_again}
use Rattle.message_laws.specs.Ledgers.{Entry, CoversRange, Adds, Sends, is_application, AreRecorded, SentAgainAsFirst}
use Rattle.message_laws.proofs.Planning.{IsWithin, Facts, plan_facts, tick_facts, too_long_facts}
use Rattle.message_laws.proofs.Numbering.{is_new, sent_now-up, and_assoc, never, up_or_not, plain_facts, without-sent}
use Rattle.message_laws.proofs.Recording.{Remembers, remembers_long, remembers_more, remembers_kept, remembers_none, entries, adds_new, range_covers}

-- what was sent so far, as it is kept, leads to replies and to what was sent then
pub record IsRecorded (machine : Machine) (ledger : List Entry) (application asked : Bool) (outcome : Outcome) : Type 0 where
  pub after : List Entry
  pub sends : Sends machine.member application (not (is_up machine.state) && (asked && is_up outcome.machine.state)) ledger outcome.turn.replies after
  pub member : outcome.machine.member ≡ machine.member
  pub remembers : Remembers machine.member 1 outcome.machine.sent after

-- ---- a plan that is carried out

span_range : (machine : Machine) (moment : ℤ) (ledger : List Entry) (resend : Option Span) → Remembers machine.member 1 machine.sent ledger → ((span : Span) → resend ≡ Some span → IsWithin (length machine.sent) span.first span.last) → (frames_of_span machine.member moment machine.sent resend ≡ []) ⊎ CoversRange machine.member ledger (frames_of_span machine.member moment machine.sent resend)
span_range machine moment ledger None r within = inl refl
span_range machine moment ledger (Some span) r within = inr (range_covers machine.member moment machine.sent ledger span.first span.last r (within span refl))

-- messages that are added, where numbers begin again or go on
record HasAdded (member : List ℕ) (again application : Bool) (ledger : List Entry) (frames : List (List ℕ)) (sent : List (Option Kept)) : Type 0 where
  after : List Entry
  adds : Adds member application (cond again [] ledger) frames after
  remembers : Remembers member 1 sent after

session_added : (machine : Machine) (moment : ℤ) (ledger : List Entry) (reset : Bool) (messages : List Message) → Remembers machine.member 1 machine.sent ledger → HasAdded machine.member reset false ledger (new_frames machine.member moment (length (sent_before machine reset) + 1) messages) (sent_before machine reset ++ replicate (length messages) None)
session_added machine moment ledger true messages r = record {
  after = entries false (new_frames machine.member moment 1 messages);
  adds = adds_new machine.member false moment 1 messages [] (omega arith);
  remembers = remembers_none machine.member moment 1 messages;
}
session_added machine moment ledger false messages r =
    let number = length machine.sent + 1 in
    let long = remembers_long machine.member 1 machine.sent ledger r in
    record {
      after = ledger ++ entries false (new_frames machine.member moment number messages);
      adds = adds_new machine.member false moment number messages ledger (omega arith);
      remembers = remembers_more machine.member 1 number machine.sent (replicate (length messages) None) ledger (entries false (new_frames machine.member moment number messages)) (omega arith) r (remembers_none machine.member moment number messages);
    }

carried_records : (machine : Machine) (ledger : List Entry) (moment : ℤ) (fields : List Field) (base : ℕ) (asked : Bool) (plan : Plan) → Remembers machine.member 1 machine.sent ledger → Facts base (length machine.sent) (not (is_up machine.state) && asked) plan → IsRecorded machine ledger false asked (carried_out machine moment fields plan)
unfolding carried_out replies_of
carried_records machine ledger moment fields base asked plan r f =
    let up = sent_now-up moment (replies_of machine moment plan) plan.state in
    let same : plan.reset ≡ (not (is_up machine.state) && (asked && is_up (sent_now moment (replies_of machine moment plan) plan.state))) =
    f.reset ∙ and_assoc (not (is_up machine.state)) asked (is_up_phase plan.state.phase) ∙ ap (λ (b : Bool). not (is_up machine.state) && (asked && b)) (sym up) in
    let added = session_added machine moment ledger plan.reset plan.messages r in
    record {
      after = added.after;
      sends = record {
        old = frames_of_span machine.member moment machine.sent plan.resend;
        new = new_frames machine.member moment (length (sent_before machine plan.reset) + 1) plan.messages;
        whole = refl;
        range = span_range machine moment ledger plan.resend r f.span;
        adds = subst (λ (b : Bool). Adds machine.member false (cond b [] ledger) (new_frames machine.member moment (length (sent_before machine plan.reset) + 1) plan.messages) added.after) same added.adds;
      };
      member = refl;
      remembers = added.remembers;
    }

-- ---- every input

-- nothing is sent, and what was sent stays
rest_records : (machine : Machine) (ledger : List Entry) (application asked : Bool) (turn : Turn) → Remembers machine.member 1 machine.sent ledger → turn.replies ≡ [] → IsRecorded machine ledger application asked (record { machine = machine; turn = turn })
rest_records machine ledger application asked turn r none =
    let same : (not (is_up machine.state) && (asked && is_up machine.state)) ≡ false = up_or_not (is_up machine.state) asked in
    record {
      after = ledger;
      sends = record {
        old = [];
        new = [];
        whole = none;
        range = inl refl;
        adds = subst (λ (b : Bool). ledger ≡ cond b [] ledger) (sym same) refl;
      };
      member = refl;
      remembers = r;
    }

-- new messages, where no Logon asks otherwise
new_records : (machine : Machine) (ledger others : List Entry) (application : Bool) (outcome : Outcome) (more : List (Option Kept)) → Remembers machine.member 1 machine.sent ledger → outcome.machine.member ≡ machine.member → outcome.machine.sent ≡ machine.sent ++ more → Adds machine.member application ledger outcome.turn.replies (ledger ++ others) → Remembers machine.member (length machine.sent + 1) more others → IsRecorded machine ledger application false outcome
new_records machine ledger others application outcome more r member sent adds remembers =
    let same : (not (is_up machine.state) && (false && is_up outcome.machine.state)) ≡ false = never (not (is_up machine.state)) (is_up outcome.machine.state) in
    record {
      after = ledger ++ others;
      sends = record {
        old = [];
        new = outcome.turn.replies;
        whole = refl;
        range = inl refl;
        adds = subst (λ (b : Bool). Adds machine.member application (cond b [] ledger) outcome.turn.replies (ledger ++ others)) (sym same) adds;
      };
      member = member;
      remembers = subst (λ (s : List (Option Kept)). Remembers machine.member 1 s (ledger ++ others)) (sym sent) (remembers_more machine.member 1 (length machine.sent + 1) machine.sent more ledger others (omega arith) r remembers);
    }

fields_recorded : (machine : Machine) (ledger : List Entry) (moment : ℤ) (found : Result (List Field) FieldFault) → Remembers machine.member 1 machine.sent ledger → IsRecorded machine ledger false (asks_reset found) (on_fields machine moment found)
fields_recorded machine ledger moment (Err fault) r = rest_records machine ledger false false (rests machine).turn r refl
fields_recorded machine ledger moment (Ok fields) r =
    let state = heard moment machine.state in
    let plan = plan_for machine state fields (message_number fields) in
    elim (is_up machine.state) as (λ b. (is_up machine.state ≡ b) → IsRecorded machine ledger false (asks_reset (Ok fields)) (carried_out machine moment fields plan)) [
      | true ↦ λ up. carried_records machine ledger moment fields machine.state.next_in (asks_reset (Ok fields)) plan r
          (plan_facts machine.state.next_in machine state fields (message_number fields) (omega arith) (λ _. refl) (λ down e n. absurd (let x : true ≡ false = sym up ∙ down in cc)))
      | false ↦ λ down. carried_records machine ledger moment fields 0 (asks_reset (Ok fields)) plan r
          (plan_facts 0 machine state fields (message_number fields) (omega arith) (λ up. absurd (let x : true ≡ false = sym up ∙ down in cc)) (λ _ e n. omega arith))
    ] refl

choose_records : (machine : Machine) (ledger : List Entry) (application asked : Bool) (b : Bool) (x y : Outcome) → IsRecorded machine ledger application asked x → IsRecorded machine ledger application asked y → IsRecorded machine ledger application asked (cond b x y)
choose_records machine ledger application asked true x y f g = f
choose_records machine ledger application asked false x y f g = g

send_records : (machine : Machine) (ledger : List Entry) (messages : List Message) (moment : ℤ) → Remembers machine.member 1 machine.sent ledger → IsRecorded machine ledger true false (on_send machine messages moment)
unfolding on_send
send_records machine ledger messages moment r =
    let number = length machine.sent + 1 in
    let long = remembers_long machine.member 1 machine.sent ledger r in
    new_records machine ledger (entries true (new_frames machine.member moment number messages)) true (on_send machine messages moment) (all_kept moment messages) r refl refl
    (adds_new machine.member true moment number messages ledger (omega arith)) (remembers_kept machine.member moment number messages)

reject_records : (machine : Machine) (ledger : List Entry) (number : ℕ) (kind : MessageType) (tag reason : ℕ) (moment : ℤ) → Remembers machine.member 1 machine.sent ledger → IsRecorded machine ledger false false (on_reject machine number kind tag reason moment)
unfolding on_reject
reject_records machine ledger number kind tag reason moment r =
    let next = length machine.sent + 1 in
    let long = remembers_long machine.member 1 machine.sent ledger r in
    let own = reject number tag (byte_of kind ∷ []) reason in
    let frame = new_frame machine.member moment next own in
    let place : next ≡ length ledger + 1 = omega arith in
    new_records machine ledger (record { application = false; frame = frame } ∷ []) false (on_reject machine number kind tag reason moment) (None ∷ []) r refl refl
    (subst (λ (n : ℕ). IsNew machine.member n frame) place (is_new machine.member moment next own), refl) (refl, tt)

input_records : (machine : Machine) (ledger : List Entry) (input : Input) → Remembers machine.member 1 machine.sent ledger → IsRecorded machine ledger (is_application input) (is_reset input) (outcome_of machine input)
unfolding on_frame on_overlong on_clock
input_records machine ledger Connection r =
    new_records machine ledger [] false (rests (connected machine)) [] r refl (sym (append-nil machine.sent)) (append-nil ledger) tt
input_records machine ledger (Frame frame moment) r =
    choose_records machine ledger false (asks_reset (split (content_of frame))) (is_over machine.state.phase) _ _ (rest_records machine ledger false (asks_reset (split (content_of frame))) (rests machine).turn r refl) (fields_recorded machine ledger moment (split (content_of frame)) r)
input_records machine ledger (TooLong moment) r =
    choose_records machine ledger false false (is_over machine.state.phase) _ _ (rest_records machine ledger false false (rests machine).turn r refl)
    (carried_records machine ledger moment [] machine.state.next_in false _ r (plain_facts machine.state.next_in (length machine.sent) (not (is_up machine.state)) _ (too_long_facts (length machine.sent) machine.state)))
input_records machine ledger (Tick moment) r =
    choose_records machine ledger false false (is_up machine.state) _ _
    (carried_records machine ledger moment [] machine.state.next_in false _ r (plain_facts machine.state.next_in (length machine.sent) (not (is_up machine.state)) _ (tick_facts (length machine.sent) moment machine.state)))
    (rest_records machine ledger false false (rests machine).turn r refl)
input_records machine ledger (Send messages moment) r =
    choose_records machine ledger true false (is_up machine.state) _ _ (send_records machine ledger messages moment r) (rest_records machine ledger true false (rests machine).turn r refl)
input_records machine ledger (Reject number kind tag reason moment) r =
    choose_records machine ledger false false (is_up machine.state) _ _ (reject_records machine ledger number kind tag reason moment r) (rest_records machine ledger false false (rests machine).turn r refl)

-- ---- over every list of inputs

without-member : (machine : Machine) (input : Input) → (without_memory machine input).member ≡ machine.member
without-member machine Connection = refl
without-member machine (Frame frame moment) = refl
without-member machine (TooLong moment) = refl
without-member machine (Tick moment) = refl
without-member machine (Send messages moment) = refl
without-member machine (Reject number kind tag reason moment) = refl

moved : (a b : List ℕ) (s t : List (Option Kept)) (ledger : List Entry) → a ≡ b → s ≡ t → Remembers a 1 s ledger → Remembers b 1 t ledger
moved a b s t ledger e f r = subst (λ (m : List ℕ). Remembers m 1 t ledger) e (subst (λ (x : List (Option Kept)). Remembers a 1 x ledger) f r)

recorded : (machine : Machine) (ledger : List Entry) (inputs : List Input) (answers : List (Result Turn NoMemory)) (last : Machine) → Remembers machine.member 1 machine.sent ledger → Follows machine inputs answers last → AreRecorded machine ledger inputs answers
recorded machine ledger [] answers last r follows = tt
recorded machine ledger (input ∷ inputs) [] last r follows = tt
recorded machine ledger (input ∷ inputs) (Ok turn ∷ answers) last r follows =
    let outcome = outcome_of machine input in
    let behind = outcome.machine in
    let own = input_records machine ledger input r in
    let there : Remembers behind.member 1 behind.sent own.after = moved machine.member behind.member behind.sent behind.sent own.after (sym own.member) refl own.remembers in (
      own.after,
      subst (λ (t : Turn). Sends machine.member (is_application input) (begins_again machine input behind) ledger t.replies own.after) (sym follows.0) own.sends,
      recorded behind own.after inputs answers last there follows.1,
    )
recorded machine ledger (input ∷ inputs) (Err no_memory ∷ answers) last r follows =
    let behind = without_memory machine input in
    recorded behind ledger inputs answers last (moved machine.member behind.member machine.sent behind.sent ledger (sym (without-member machine input)) (sym (without-sent machine input)) r) follows.1

pub sent_again_as_first : SentAgainAsFirst
sent_again_as_first member inputs answers last follows = recorded (fresh member) [] inputs answers last tt follows
