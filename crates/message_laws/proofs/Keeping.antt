-- A session that is up forgets nothing.
use Rattle.std.proofs.Common.{◌≡◌, ◌++◌, ◌&&◌, Bool, not, List, [], Option, Result, Ok, Err, true, false, refl, sym, ap, ◌∙◌, arith}
use Rattle.std.specs.Prelude.{ℕ, ℤ, length}
use Rattle.std.proofs.lemmas.List.{append-nil}
use Rattle.fix_fields.specs.declared.field.Field.{Field}
use Rattle.fix_fields.specs.declared.field.FieldFault.{FieldFault}
use Rattle.fix_fields.specs.Fields.{split}
use Rattle.session_core.specs.declared.message.Kept.{Kept}
use Rattle.session_core.specs.declared.plan.Plan.{Plan}
use Rattle.session_core.specs.declared.runs.Input.TheVariants.{Connection, Frame, TooLong, Tick, Send, Reject}
use Rattle.session_core.specs.declared.state.Phase.{Phase}
use Rattle.session_core.specs.declared.state.Phase.TheVariants.{New, Up, Ended}
use Rattle.session_core.specs.Lookup.{message_number, kind_of}
use Rattle.fix_fields.specs.Content.{content_of}
use Rattle.session_core.specs.State.{is_up, is_up_phase, is_over, heard}
use Rattle.session_core.specs.Frames.{numbers_of}
use Rattle.session_core.specs.Machine.{Machine, on_frame, on_fields, on_clock, on_overlong, on_send, on_reject, carried_out, plan_for}
use Rattle.message_laws.specs.Sessions.{is_reset_logon}
use Rattle.message_laws.specs.Stays.{SentStays}
use Rattle.message_laws.proofs.Planning.{plan_facts, tick_facts, too_long_facts}

-- ---- no plan of a session that is up forgets what was sent

plan_for-reset : (machine : Machine) (moment : ℤ) (fields : List Field) (number : Option ℕ) → is_up machine.state ≡ true →
    (plan_for machine (heard moment machine.state) fields number).reset ≡ false
plan_for-reset machine moment fields number up =
    let plan = plan_for machine (heard moment machine.state) fields number in
    let facts = plan_facts machine.state.next_in machine (heard moment machine.state) fields number (omega arith) (λ _. refl)
    (λ down e n. absurd (let x : true ≡ false = sym up ∙ down in cc)) in
    facts.reset ∙ ap (λ (b : Bool). (not b && is_reset_logon (kind_of fields) fields) && is_up_phase plan.state.phase) up

-- ---- so what was sent stays

abbrev pub Stays : Machine → Machine → Type 0
Stays before after = (more : List (Option Kept)) × (after.sent ≡ before.sent ++ more)

carried_out-stays : (machine : Machine) (moment : ℤ) (fields : List Field) (plan : Plan) →
    plan.reset ≡ false → Stays machine (carried_out machine moment fields plan).machine
unfolding carried_out
carried_out-stays machine moment fields plan h = (numbers_of plan.messages, rw h refl)

rests-stays : (machine : Machine) → Stays machine machine
rests-stays machine = ([], sym (append-nil machine.sent))

on_fields-stays : (machine : Machine) (moment : ℤ) (found : Result (List Field) FieldFault) →
    is_up machine.state ≡ true → Stays machine (on_fields machine moment found).machine
on_fields-stays machine moment (Err fault) up = rests-stays machine
on_fields-stays machine moment (Ok fields) up =
    carried_out-stays machine moment fields _
    (plan_for-reset machine moment fields (message_number fields) up)

-- what is up is not over
pub up_not_over : (phase : Phase) → is_up_phase phase ≡ true → is_over phase ≡ false
up_not_over New h = cc
up_not_over Up h = refl
up_not_over (Ended cause) h = cc

pub sent_stays : SentStays
unfolding on_frame on_overlong on_clock on_send on_reject
sent_stays machine Connection up = rests-stays machine
sent_stays machine (Frame frame moment) up =
    rw (up_not_over machine.state.phase up) (on_fields-stays machine moment (split (content_of frame)) up)
sent_stays machine (TooLong moment) up =
    rw (up_not_over machine.state.phase up) (carried_out-stays machine moment [] _ (too_long_facts (length machine.sent) machine.state).reset)
sent_stays machine (Tick moment) up = rw up (carried_out-stays machine moment [] _ (tick_facts (length machine.sent) moment machine.state).reset)
sent_stays machine (Send messages moment) up = rw up (_, refl)
sent_stays machine (Reject number kind tag reason moment) up = rw up (_, refl)
