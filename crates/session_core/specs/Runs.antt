-- The machine over whole lists of inputs.
use Rattle.std.specs.Prelude.{◌≡◌, ◌≤◌, ℕ, not, if◌then◌else◌, List, [], ◌∷◌, length, Result, Ok, Err, IsTrue, ℤ}
use Rattle.venue_words.specs.declared.limits.TheConstants.{MAX_FRAME_BYTES}
use Rattle.venue_words.specs.declared.refusal.NoMemory.{NoMemory}
use Rattle.fix_write.specs.declared.message_type.MessageType.{MessageType}
use Rattle.session_core.specs.declared.message.Message.{Message}
use Rattle.session_core.specs.declared.runs.Input.{Input}
use Rattle.session_core.specs.declared.runs.Input.TheVariants.{Connection, Frame, TooLong, Tick, Send, Reject}
use Rattle.session_core.specs.declared.turn.Turn.{Turn}
use Rattle.session_core.specs.State.{is_up, is_over}
use Rattle.session_core.specs.Machine.{Machine, Outcome, IsUp, rests, connected, given_up, on_frame, on_overlong, on_clock, on_send, on_reject}

-- a frame is not too long
abbrev pub IsShort : Input → Type 0
IsShort Connection = Unit {0}
IsShort (Frame frame moment) = length frame ≤ MAX_FRAME_BYTES
IsShort (TooLong moment) = Unit {0}
IsShort (Tick moment) = Unit {0}
IsShort (Send messages moment) = Unit {0}
IsShort (Reject number kind tag reason moment) = Unit {0}

-- a session that is not up passes over what is to be sent
abbrev pub send_if_up : Machine → List Message → ℤ → Outcome
send_if_up machine messages moment = if is_up machine.state then on_send machine messages moment else rests machine

abbrev pub reject_if_up : Machine → ℕ → MessageType → ℕ → ℕ → ℤ → Outcome
reject_if_up machine number kind tag reason moment =
    if is_up machine.state then on_reject machine number kind tag reason moment else rests machine

-- what an input gives
abbrev pub outcome_of : Machine → Input → Outcome
outcome_of machine Connection = rests (connected machine)
outcome_of machine (Frame frame moment) = on_frame machine frame moment
outcome_of machine (TooLong moment) = on_overlong machine moment
outcome_of machine (Tick moment) = on_clock machine moment
outcome_of machine (Send messages moment) = send_if_up machine messages moment
outcome_of machine (Reject number kind tag reason moment) = reject_if_up machine number kind tag reason moment

-- the session after an input for which memory was wanted: what was received ends the connection, and what was to be
-- sent changes nothing
abbrev pub without_memory : Machine → Input → Machine
without_memory machine Connection = machine
without_memory machine (Frame frame moment) = given_up machine
without_memory machine (TooLong moment) = given_up machine
without_memory machine (Tick moment) = given_up machine
without_memory machine (Send messages moment) = machine
without_memory machine (Reject number kind tag reason moment) = machine

-- the session after an input and its answer
abbrev pub machine_behind : Machine → Input → Result Turn NoMemory → Machine
machine_behind machine input (Ok turn) = (outcome_of machine input).machine
machine_behind machine input (Err no_memory) = without_memory machine input

-- an input may want memory: a connection never does, what is received only where the session is not over, and the clock and what is
-- to be sent only where it is up
abbrev pub MayWantMemory : Machine → Input → Type 0
MayWantMemory machine Connection = ⊥
MayWantMemory machine (Frame frame moment) = IsTrue (not (is_over machine.state.phase))
MayWantMemory machine (TooLong moment) = IsTrue (not (is_over machine.state.phase))
MayWantMemory machine (Tick moment) = IsUp machine
MayWantMemory machine (Send messages moment) = IsUp machine
MayWantMemory machine (Reject number kind tag reason moment) = IsUp machine

-- an answer is the machine's turn, or memory was wanted
abbrev pub Answers : Machine → Input → Result Turn NoMemory → Type 0
Answers machine input (Ok turn) = turn ≡ (outcome_of machine input).turn
Answers machine input (Err no_memory) = MayWantMemory machine input

-- the answers to a list of inputs, and the session behind the last
abbrev pub Follows : Machine → List Input → List (Result Turn NoMemory) → Machine → Type 0
Follows machine [] [] last = last ≡ machine
Follows machine [] (answer ∷ answers) last = ⊥
Follows machine (input ∷ inputs) [] last = ⊥
Follows machine (input ∷ inputs) (answer ∷ answers) last =
    Answers machine input answer × Follows (machine_behind machine input answer) inputs answers last
