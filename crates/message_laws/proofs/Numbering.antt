-- Every input's replies have the next numbers.
use Rattle.std.proofs.Common.{◌≡◌, ℕ, suc, ◌+◌, ◌-◌, ◌<◌, ◌≤◌, Bool, true, false, not, ◌&&◌, cond, eqb, List, [], ◌∷◌, ◌++◌, length, take, drop, Option, Some, None, Result, Ok, Err, inl, inr, refl, sym, ◌∙◌, ap, subst, arith, length-append, length-drop}
use Rattle.std.specs.Prelude.{ℤ, map, replicate}
use Rattle.std.proofs.lemmas.List.{length-map, length-replicate, length-take-le}
use Rattle.venue_words.specs.declared.refusal.NoMemory.{NoMemory}
use Rattle.fix_fields.specs.declared.field.Field.{Field}
use Rattle.fix_fields.specs.declared.field.FieldFault.{FieldFault}
use Rattle.fix_fields.specs.Fields.{split}
use Rattle.fix_write.specs.declared.message_type.MessageType.{MessageType}
use Rattle.fix_write.specs.MessageTypes.{byte_of}
use Rattle.session_core.specs.declared.message.Kept.{Kept}
use Rattle.session_core.specs.declared.message.Message.{Message}
use Rattle.session_core.specs.declared.plan.Plan.{Plan}
use Rattle.session_core.specs.declared.plan.Span.{Span}
use Rattle.session_core.specs.declared.runs.Input.{Input}
use Rattle.session_core.specs.declared.runs.Input.TheVariants.{Connection, Frame, TooLong, Tick, Send, Reject}
use Rattle.session_core.specs.declared.state.State.{State}
use Rattle.session_core.specs.declared.turn.Turn.{Turn}
use Rattle.session_core.specs.Bodies.{reject}
use Rattle.fix_fields.specs.Content.{content_of}
use Rattle.session_core.specs.Frames.{new_frame, new_frames, kept, all_kept}
use Rattle.session_core.specs.Lookup.{message_number}
use Rattle.session_core.specs.Machine.{Machine, Outcome, carried_out, sent_before, sent_now, replies_of, plan_for, on_fields, on_frame, on_clock, on_overlong, on_send, on_reject, fresh, rests, connected}
use Rattle.session_core.specs.Resent.{Resent, Again, Gap, with_run, resent, old_frame, gap_frame, resent_frame, part_of, frames_of_span}
use Rattle.session_core.specs.Runs.{outcome_of, without_memory, Follows}
use Rattle.session_core.specs.State.{is_up, is_up_phase, is_over, heard}
use Rattle.message_laws.specs.Sessions.{asks_reset, is_reset}
use Rattle.message_laws.specs.Numbers.{IsNew, IsAgain, Counts, begins_again, first_number, AreNumbered, NumbersAreConsecutive}
use Rattle.message_laws.proofs.Planning.{IsWithin, Facts, plan_facts, tick_facts, too_long_facts}

-- ---- new messages

pub is_new : (member : List ℕ) (moment : ℤ) (number : ℕ) (message : Message) → IsNew member number (new_frame member moment number message)
unfolding new_frame
is_new member moment number message = record { kind = byte_of message.kind; moment = moment; body = message.body; frame_is = refl }

new_count : (member : List ℕ) (moment : ℤ) (number : ℕ) (messages : List Message) → Counts member number (new_frames member moment number messages) (number + length messages)
unfolding new_frames
new_count member moment number [] = omega arith
new_count member moment number (message ∷ messages) =
    let count : number + 1 + length messages ≡ number + suc (length messages) = omega arith in
    inl (is_new member moment number message, subst (λ (n : ℕ). Counts member (number + 1) (new_frames member moment (number + 1) messages) n) count (new_count member moment (number + 1) messages))

-- ---- messages that are sent again

-- the number of what is sent again
abbrev IsBelow : ℕ → Resent → Type 0
IsBelow next (Again number kept) = (0 < number) × (number < next)
IsBelow next (Gap first end) = (0 < first) × (first < next)

abbrev AreBelow : ℕ → List Resent → Type 0
AreBelow next [] = Unit {0}
AreBelow next (item ∷ items) = IsBelow next item × AreBelow next items

run_below : (next first end : ℕ) (items : List Resent) → 0 < first → first < next → AreBelow next items → AreBelow next (with_run first end items)
run_below next first end [] some low below = ((some, low), tt)
run_below next first end (Gap behind other ∷ items) some low below = ((some, low), below.1)
run_below next first end (Again number kept ∷ items) some low below = ((some, low), below)

resent_below : (next number : ℕ) (entries : List (Option Kept)) → 0 < number → number + length entries ≤ next → AreBelow next (resent number entries)
resent_below next number [] some room = tt
resent_below next number (Some kept ∷ entries) some room =
    ((some, omega arith), resent_below next (number + 1) entries (omega arith) (omega arith))
resent_below next number (None ∷ entries) some room =
    run_below next number (number + 1) (resent (number + 1) entries) some (omega arith) (resent_below next (number + 1) entries (omega arith) (omega arith))

is_again : (member : List ℕ) (moment : ℤ) (next : ℕ) (item : Resent) → IsBelow next item → IsAgain member next (resent_frame member moment item)
unfolding old_frame gap_frame
is_again member moment next (Again number kept) below =
    record { kind = byte_of kept.message.kind; number = number; moment = moment; first = kept.moment; body = kept.message.body; some = below.0; before = below.1; frame_is = refl }
is_again member moment next (Gap first end) below =
    record { kind = _; number = first; moment = moment; first = moment; body = _; some = below.0; before = below.1; frame_is = refl }

again_count : (member : List ℕ) (moment : ℤ) (next after : ℕ) (items : List Resent) (frames : List (List ℕ)) → AreBelow next items → Counts member next frames after → Counts member next (map (resent_frame member moment) items ++ frames) after
again_count member moment next after [] frames below counts = counts
again_count member moment next after (item ∷ items) frames below counts =
    inr (is_again member moment next item below.0, again_count member moment next after items frames below.1 counts)

part_long : (sent : List (Option Kept)) (first last : ℕ) → IsWithin (length sent) first last → first + length (drop (first - 1) (take last sent)) ≤ length sent + 1
part_long sent first last within =
    omega (arith, within.some, within.order, within.most, length-drop (first - 1) (take last sent), length-take-le last sent within.most)

-- ---- a plan that is carried out

span_count : (machine : Machine) (moment : ℤ) (resend : Option Span) (frames : List (List ℕ)) (after : ℕ) → ((span : Span) → resend ≡ Some span → IsWithin (length machine.sent) span.first span.last) → Counts machine.member (length machine.sent + 1) frames after → Counts machine.member (length machine.sent + 1) (frames_of_span machine.member moment machine.sent resend ++ frames) after
span_count machine moment None frames after within counts = counts
span_count machine moment (Some span) frames after within counts =
    let w = within span refl in
    again_count machine.member moment (length machine.sent + 1) after (resent span.first (part_of machine.sent span)) frames
    (resent_below (length machine.sent + 1) span.first (part_of machine.sent span) w.some (part_long machine.sent span.first span.last w)) counts

sent_long : (before : List (Option Kept)) (count : ℕ) → length (before ++ replicate count None) ≡ length before + count
sent_long before count = omega (arith, length-append before (replicate count None), length-replicate count (let none : Option Kept = None in none))

plan_count : (machine : Machine) (moment : ℤ) (reset : Bool) (resend : Option Span) (messages : List Message) → (reset ≡ true → resend ≡ None) → ((span : Span) → resend ≡ Some span → IsWithin (length machine.sent) span.first span.last) →
    Counts machine.member (first_number reset (length machine.sent + 1))
    (frames_of_span machine.member moment machine.sent resend ++ new_frames machine.member moment (length (sent_before machine reset) + 1) messages)
    (length (sent_before machine reset ++ replicate (length messages) None) + 1)
plan_count machine moment true resend messages either within =
    let none : resend ≡ None = either refl in
    let count : 1 + length messages ≡ length (replicate (length messages) (let empty : Option Kept = None in empty)) + 1 = omega (arith, length-replicate (length messages) (let empty : Option Kept = None in empty)) in
    subst (λ (o : Option Span). Counts machine.member 1 (frames_of_span machine.member moment machine.sent o ++ new_frames machine.member moment 1 messages) (length (replicate (length messages) (let empty : Option Kept = None in empty)) + 1)) (sym none)
    (subst (λ (n : ℕ). Counts machine.member 1 (new_frames machine.member moment 1 messages) n) count (new_count machine.member moment 1 messages))
plan_count machine moment false resend messages either within =
    let count : length machine.sent + 1 + length messages ≡ length (machine.sent ++ replicate (length messages) None) + 1 = omega (arith, sent_long machine.sent (length messages)) in
    span_count machine moment resend (new_frames machine.member moment (length machine.sent + 1) messages) _ within
    (subst (λ (n : ℕ). Counts machine.member (length machine.sent + 1) (new_frames machine.member moment (length machine.sent + 1) messages) n) count (new_count machine.member moment (length machine.sent + 1) messages))

-- what every input's replies are to be
abbrev pub IsCounted : Machine → Bool → Outcome → Type 0
IsCounted machine asked outcome =
    Counts machine.member (first_number (not (is_up machine.state) && (asked && is_up outcome.machine.state)) (length machine.sent + 1)) outcome.turn.replies (length outcome.machine.sent + 1)

pub sent_now-up : (moment : ℤ) (replies : List (List ℕ)) (state : State) → is_up (sent_now moment replies state) ≡ is_up_phase state.phase
sent_now-up moment replies state =
    elim (eqb (length replies) 0) as (λ b. is_up (cond b state (record state { sent_at = moment })) ≡ is_up_phase state.phase) [ true ↦ refl | false ↦ refl ]

pub and_assoc : (a b c : Bool) → ((a && b) && c) ≡ (a && (b && c))
and_assoc true b c = refl
and_assoc false b c = refl

carried_counts : (machine : Machine) (moment : ℤ) (fields : List Field) (base : ℕ) (asked : Bool) (plan : Plan) → Facts base (length machine.sent) (not (is_up machine.state) && asked) plan → IsCounted machine asked (carried_out machine moment fields plan)
unfolding carried_out replies_of
carried_counts machine moment fields base asked plan f =
    let up = sent_now-up moment (replies_of machine moment plan) plan.state in
    let same : plan.reset ≡ (not (is_up machine.state) && (asked && is_up (sent_now moment (replies_of machine moment plan) plan.state))) =
    f.reset ∙ and_assoc (not (is_up machine.state)) asked (is_up_phase plan.state.phase) ∙ ap (λ (b : Bool). not (is_up machine.state) && (asked && b)) (sym up) in
    subst (λ (b : Bool). Counts machine.member (first_number b (length machine.sent + 1)) (replies_of machine moment plan) (length (sent_before machine plan.reset ++ replicate (length plan.messages) None) + 1)) same
    (plan_count machine moment plan.reset plan.resend plan.messages f.either f.span)

-- ---- every input

pub never : (b c : Bool) → (b && (false && c)) ≡ false
never true c = refl
never false c = refl

-- replies from the next number on, where no Logon asks otherwise
plain_counts : (machine : Machine) (outcome : Outcome) → Counts machine.member (length machine.sent + 1) outcome.turn.replies (length outcome.machine.sent + 1) → IsCounted machine false outcome
plain_counts machine outcome counts =
    subst (λ (b : Bool). Counts machine.member (first_number b (length machine.sent + 1)) outcome.turn.replies (length outcome.machine.sent + 1)) (sym (never (not (is_up machine.state)) (is_up outcome.machine.state))) counts

pub up_or_not : (up asked : Bool) → (not up && (asked && up)) ≡ false
up_or_not true asked = refl
up_or_not false true = refl
up_or_not false false = refl

-- nothing is sent, and the session is up behind it exactly where it was
rest_counts : (machine : Machine) (asked : Bool) (turn : Turn) → turn.replies ≡ [] → IsCounted machine asked (record { machine = machine; turn = turn })
rest_counts machine asked turn none =
    subst (λ (b : Bool). Counts machine.member (first_number b (length machine.sent + 1)) turn.replies (length machine.sent + 1)) (sym (up_or_not (is_up machine.state) asked))
    (subst (λ (frames : List (List ℕ)). Counts machine.member (length machine.sent + 1) frames (length machine.sent + 1)) (sym none) refl)

fields_count : (machine : Machine) (moment : ℤ) (found : Result (List Field) FieldFault) → IsCounted machine (asks_reset found) (on_fields machine moment found)
fields_count machine moment (Err fault) = rest_counts machine false (rests machine).turn refl
fields_count machine moment (Ok fields) =
    let state = heard moment machine.state in
    let plan = plan_for machine state fields (message_number fields) in
    elim (is_up machine.state) as (λ b. (is_up machine.state ≡ b) → IsCounted machine (asks_reset (Ok fields)) (carried_out machine moment fields plan)) [
      | true ↦ λ up. carried_counts machine moment fields machine.state.next_in (asks_reset (Ok fields)) plan
          (plan_facts machine.state.next_in machine state fields (message_number fields) (omega arith) (λ _. refl) (λ down e n. absurd (let x : true ≡ false = sym up ∙ down in cc)))
      | false ↦ λ down. carried_counts machine moment fields 0 (asks_reset (Ok fields)) plan
          (plan_facts 0 machine state fields (message_number fields) (omega arith) (λ up. absurd (let x : true ≡ false = sym up ∙ down in cc)) (λ _ e n. omega arith))
    ] refl

choose_counts : (machine : Machine) (asked : Bool) (b : Bool) (x y : Outcome) → IsCounted machine asked x → IsCounted machine asked y → IsCounted machine asked (cond b x y)
choose_counts machine asked true x y f g = f
choose_counts machine asked false x y f g = g

pub plain_facts : (base sent : ℕ) (b : Bool) (plan : Plan) → Facts base sent false plan → Facts base sent (b && false) plan
plain_facts base sent true plan f = f
plain_facts base sent false plan f = f

send_counts : (machine : Machine) (messages : List Message) (moment : ℤ) → IsCounted machine false (on_send machine messages moment)
unfolding on_send
send_counts machine messages moment =
    let count : length machine.sent + 1 + length messages ≡ length (machine.sent ++ all_kept moment messages) + 1 = omega (arith, length-append machine.sent (all_kept moment messages), length-map messages (kept moment)) in
    plain_counts machine (on_send machine messages moment)
    (subst (λ (n : ℕ). Counts machine.member (length machine.sent + 1) (new_frames machine.member moment (length machine.sent + 1) messages) n) count (new_count machine.member moment (length machine.sent + 1) messages))

reject_counts : (machine : Machine) (number : ℕ) (kind : MessageType) (tag reason : ℕ) (moment : ℤ) → IsCounted machine false (on_reject machine number kind tag reason moment)
unfolding on_reject
reject_counts machine number kind tag reason moment =
    plain_counts machine (on_reject machine number kind tag reason moment) (inl (is_new machine.member moment (length machine.sent + 1) (reject number tag (byte_of kind ∷ []) reason), omega (arith, length-append machine.sent (None ∷ []))))

input_counts : (machine : Machine) (input : Input) → IsCounted machine (is_reset input) (outcome_of machine input)
unfolding on_frame on_overlong on_clock
input_counts machine Connection = plain_counts machine (rests (connected machine)) refl
input_counts machine (Frame frame moment) =
    choose_counts machine (asks_reset (split (content_of frame))) (is_over machine.state.phase) _ _ (rest_counts machine (asks_reset (split (content_of frame))) (rests machine).turn refl) (fields_count machine moment (split (content_of frame)))
input_counts machine (TooLong moment) =
    choose_counts machine false (is_over machine.state.phase) _ _ (rest_counts machine false (rests machine).turn refl)
    (carried_counts machine moment [] machine.state.next_in false _ (plain_facts machine.state.next_in (length machine.sent) (not (is_up machine.state)) _ (too_long_facts (length machine.sent) machine.state)))
input_counts machine (Tick moment) =
    choose_counts machine false (is_up machine.state) _ _
    (carried_counts machine moment [] machine.state.next_in false _ (plain_facts machine.state.next_in (length machine.sent) (not (is_up machine.state)) _ (tick_facts (length machine.sent) moment machine.state)))
    (rest_counts machine false (rests machine).turn refl)
input_counts machine (Send messages moment) =
    choose_counts machine false (is_up machine.state) _ _ (send_counts machine messages moment) (rest_counts machine false (rests machine).turn refl)
input_counts machine (Reject number kind tag reason moment) =
    choose_counts machine false (is_up machine.state) _ _ (reject_counts machine number kind tag reason moment) (rest_counts machine false (rests machine).turn refl)

-- ---- over every list of inputs

pub without-sent : (machine : Machine) (input : Input) → (without_memory machine input).sent ≡ machine.sent
without-sent machine Connection = refl
without-sent machine (Frame frame moment) = refl
without-sent machine (TooLong moment) = refl
without-sent machine (Tick moment) = refl
without-sent machine (Send messages moment) = refl
without-sent machine (Reject number kind tag reason moment) = refl

numbered : (machine : Machine) (next : ℕ) (inputs : List Input) (answers : List (Result Turn NoMemory)) (last : Machine) → next ≡ length machine.sent + 1 → Follows machine inputs answers last → AreNumbered machine next inputs answers
numbered machine next [] answers last same follows = tt
numbered machine next (input ∷ inputs) [] last same follows = tt
numbered machine next (input ∷ inputs) (Ok turn ∷ answers) last same follows =
    let behind = (outcome_of machine input).machine in
    let after = length behind.sent + 1 in
    let first = first_number (begins_again machine input behind) in
    let counts : Counts machine.member (first (length machine.sent + 1)) (outcome_of machine input).turn.replies after = input_counts machine input in (
      after,
      subst (λ (t : Turn). Counts machine.member (first next) t.replies after) (sym follows.0) (subst (λ (n : ℕ). Counts machine.member (first n) (outcome_of machine input).turn.replies after) (sym same) counts),
      numbered behind after inputs answers last refl follows.1,
    )
numbered machine next (input ∷ inputs) (Err no_memory ∷ answers) last same follows =
    numbered (without_memory machine input) next inputs answers last (same ∙ ap (λ (s : List (Option Kept)). length s + 1) (sym (without-sent machine input))) follows.1

pub numbers_are_consecutive : NumbersAreConsecutive
numbers_are_consecutive member inputs answers last follows = numbered (fresh member) 1 inputs answers last (omega arith) follows
