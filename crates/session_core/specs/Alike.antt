-- Sessions that differ only in what they sent.
use Rattle.std.specs.Prelude.{◌≡◌, Bool, true, false, pos}
use Rattle.session_core.specs.declared.runs.Input.{Input}
use Rattle.session_core.specs.declared.runs.Input.TheVariants.{Connection, Frame, TooLong, Tick, Send, Reject}
use Rattle.session_core.specs.declared.state.State.{State}
use Rattle.session_core.specs.Machine.{Machine, Outcome}

-- a state but for the moment of what was sent last
abbrev pub but_for_sent : State → State
but_for_sent state = record state { sent_at = pos 0 }

-- two sessions of one member, in one state; what each sent, and when, may differ
pub record AreAlike (a b : Machine) : Type 0 where
  pub member : a.member ≡ b.member
  pub state : but_for_sent a.state ≡ but_for_sent b.state

-- they make alike sessions, by which the same is handed out and the same ends; what is sent may differ
pub record GiveAlike (a b : Outcome) : Type 0 where
  pub machines : AreAlike a.machine b.machine
  pub request : a.turn.request ≡ b.turn.request
  pub ended : a.turn.ended ≡ b.turn.ended

-- whether an input asks the session to send something, and is nothing that was received
abbrev pub is_sent : Input → Bool
is_sent Connection = false
is_sent (Frame frame moment) = false
is_sent (TooLong moment) = false
is_sent (Tick moment) = false
is_sent (Send messages moment) = true
is_sent (Reject number kind tag reason moment) = true
