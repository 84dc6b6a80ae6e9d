-- The session as a machine: what it is seen as, and what each input makes of it.
use Rattle.std.specs.Prelude.{ℕ, ◌+◌, ◌==◌, Bool, if◌then◌else◌, List, [], ◌∷◌, ◌++◌, length, Option, Some, None, option_map, Result, Ok, Err, ℤ, pos, IsTrue, false}
use Rattle.fix_fields.specs.declared.field.Field.{Field}
use Rattle.fix_fields.specs.declared.field.FieldFault.{FieldFault}
use Rattle.fix_fields.specs.Fields.{split}
use Rattle.fix_write.specs.declared.message_type.MessageType.{MessageType}
use Rattle.fix_write.specs.MessageTypes.{byte_of}
use Rattle.session_core.specs.declared.state.Phase.TheVariants.{New, Ended}
use Rattle.session_core.specs.declared.state.State.{State}
use Rattle.session_core.specs.declared.message.Incoming.{Incoming}
use Rattle.session_core.specs.declared.message.Kept.{Kept}
use Rattle.session_core.specs.declared.message.Message.{Message}
use Rattle.session_core.specs.declared.message.Request.{Request}
use Rattle.session_core.specs.declared.plan.RequestHead.{RequestHead}
use Rattle.session_core.specs.declared.plan.Plan.{Plan}
use Rattle.session_core.specs.declared.turn.Turn.{Turn}
use Rattle.session_core.specs.Lookup.{kind_of, message_number}
use Rattle.fix_fields.specs.Content.{content_of}
use Rattle.session_core.specs.State.{heard, is_up, is_over, cause_of}
use Rattle.session_core.specs.Bodies.{message, reject}
use Rattle.session_core.specs.Cases.{on_no_number, on_message, on_tick, on_too_long}
use Rattle.session_core.specs.Frames.{new_frame, new_frames, all_kept, numbers_of}
use Rattle.session_core.specs.Resent.{frames_of_span}

-- a session: whose it is, what it remembers, and what is kept of each message that it sent, by number from 1 on
pub record Machine : Type 0 where
  pub member : List ℕ
  pub state : State
  pub sent : List (Option Kept)

-- the session is up
abbrev pub IsUp : Machine → Type 0
IsUp machine = IsTrue (is_up machine.state)

-- the session is over, until a new connection
abbrev pub IsOver : Machine → Type 0
IsOver machine = IsTrue (is_over machine.state.phase)

-- what an input gives: the next session, and the turn
pub record Outcome : Type 0 where
  pub machine : Machine
  pub turn : Turn

-- ---- a plan is carried out

-- the turn that sends these frames
abbrev pub sending : Machine → List (List ℕ) → Turn
sending machine frames = record { replies = frames; request = None; ended = cause_of machine.state.phase }

-- nothing happens
abbrev pub rests : Machine → Outcome
rests machine = record { machine = machine; turn = sending machine [] }

-- what is kept of what was sent before
abbrev pub sent_before : Machine → Bool → List (Option Kept)
sent_before machine reset = if reset then [] else machine.sent

-- all that a plan sends: first what is sent again, and then messages with the next numbers
unfoldable pub replies_of : Machine → ℤ → Plan → List (List ℕ)
replies_of machine moment plan =
    frames_of_span machine.member moment machine.sent plan.resend
    ++ new_frames machine.member moment (length (sent_before machine plan.reset) + 1) plan.messages

-- the moment of what was sent is remembered
abbrev pub sent_now : ℤ → List (List ℕ) → State → State
sent_now moment replies state = if length replies == 0 then state else record state { sent_at = moment }

abbrev pub machine_after : Machine → ℤ → Plan → Machine
machine_after machine moment plan =
    record {
      member = machine.member;
      state = sent_now moment (replies_of machine moment plan) plan.state;
      sent = sent_before machine plan.reset ++ numbers_of plan.messages;
    }

abbrev pub request_of : List Field → RequestHead → Request
request_of fields head = record { number = head.number; kind = head.kind; fields = fields }

-- a plan carried out, over the fields of a message
unfoldable pub carried_out : Machine → ℤ → List Field → Plan → Outcome
carried_out machine moment fields plan =
    record {
      machine = machine_after machine moment plan;
      turn =
          record {
            replies = replies_of machine moment plan;
            request = option_map (request_of fields) plan.request;
            ended = cause_of plan.state.phase;
          };
    }

-- ---- what each input gives

abbrev pub incoming : ℕ → List Field → Incoming
incoming number fields = record { number = number; kind = kind_of fields; fields = fields }

-- what a message of these fields asks, if it has a number
abbrev pub plan_for : Machine → State → List Field → Option ℕ → Plan
plan_for machine state fields None = on_no_number state
plan_for machine state fields (Some number) =
    on_message machine.member (length machine.sent) state (incoming number fields)

abbrev pub on_fields : Machine → ℤ → Result (List Field) FieldFault → Outcome
on_fields machine moment (Err fault) = rests machine
on_fields machine moment (Ok fields) =
    carried_out machine moment fields (plan_for machine (heard moment machine.state) fields (message_number fields))

-- a frame; where its content does not split into fields nothing happens
unfoldable pub on_frame : Machine → List ℕ → ℤ → Outcome
on_frame machine frame moment =
    if is_over machine.state.phase then rests machine else on_fields machine moment (split (content_of frame))

-- the clock
abbrev pub ticks : Machine → ℤ → Outcome
ticks machine moment = carried_out machine moment [] (on_tick moment machine.state)

unfoldable pub on_clock : Machine → ℤ → Outcome
on_clock machine moment = if is_up machine.state then ticks machine moment else rests machine

-- a frame that is too long
abbrev pub ends_too_long : Machine → ℤ → Outcome
ends_too_long machine moment = carried_out machine moment [] (on_too_long machine.state)

unfoldable pub on_overlong : Machine → ℤ → Outcome
on_overlong machine moment = if is_over machine.state.phase then rests machine else ends_too_long machine moment

-- application messages, each kept under its number
unfoldable pub on_send : Machine → List Message → ℤ → Outcome
on_send machine messages moment =
    let frames = new_frames machine.member moment (length machine.sent + 1) messages in
    record {
      machine =
          record {
            member = machine.member;
            state = sent_now moment frames machine.state;
            sent = machine.sent ++ all_kept moment messages;
          };
      turn = sending machine frames;
    }

abbrev pub on_send_one : Machine → MessageType → List ℕ → ℤ → Outcome
on_send_one machine kind body moment = on_send machine (message kind body ∷ []) moment

-- a Reject that is asked for from outside
unfoldable pub on_reject : Machine → ℕ → MessageType → ℕ → ℕ → ℤ → Outcome
on_reject machine number kind tag reason moment =
    let frame = new_frame machine.member moment (length machine.sent + 1) (reject number tag (byte_of kind ∷ []) reason) in
    record {
      machine =
          record {
            member = machine.member;
            state = record machine.state { sent_at = moment };
            sent = machine.sent ++ None ∷ [];
          };
      turn = sending machine (frame ∷ []);
    }

-- ---- beginnings and ends

-- the session of a member, before its first connection
abbrev pub fresh : List ℕ → Machine
fresh member =
    record {
      member = member;
      state = record { phase = New; next_in = 1; heartbeat = 0; received = pos 0; sent_at = pos 0; test_out = false };
      sent = [];
    }

-- a new connection: the numbers and what was sent stay
abbrev pub connected : Machine → Machine
connected machine =
    record { member = machine.member; state = record machine.state { phase = New }; sent = machine.sent }

-- the session after a turn that gave up for want of memory: the connection has ended, and nothing else changed
abbrev pub given_up : Machine → Machine
given_up machine =
    record { member = machine.member; state = record machine.state { phase = Ended None }; sent = machine.sent }
