-- What a session remembers beside the messages that it sent.
use Rattle.std.specs.Prelude.{Bool, true, false, Option, Some, None, ℤ}
use Rattle.session_core.specs.declared.state.EndCause.{EndCause}
use Rattle.session_core.specs.declared.state.Phase.{Phase}
use Rattle.session_core.specs.declared.state.Phase.TheVariants.{New, Up, Ended}
use Rattle.session_core.specs.declared.state.State.{State}

-- the connection ends
abbrev pub ended : EndCause → State → State
ended cause state = record state { phase = Ended (Some cause) }

-- a frame was received
abbrev pub heard : ℤ → State → State
heard moment state = record state { received = moment; test_out = false }

abbrev pub is_up_phase : Phase → Bool
is_up_phase New = false
is_up_phase Up = true
is_up_phase (Ended cause) = false

-- whether a Logon was taken and the connection has not ended
abbrev pub is_up : State → Bool
is_up state = is_up_phase state.phase

-- whether the connection has ended
abbrev pub is_over : Phase → Bool
is_over New = false
is_over Up = false
is_over (Ended cause) = true

-- why the connection ended, where it did
abbrev pub cause_of : Phase → Option EndCause
cause_of New = None
cause_of Up = None
cause_of (Ended cause) = cause
