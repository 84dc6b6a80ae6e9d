-- What a turn is to do: the next state, what is sent, and what is handed out.
use Rattle.std.specs.Prelude.{◌≡◌, true, false, List, [], Some, None, OnSome}
use Rattle.session_core.specs.declared.message.Incoming.{Incoming}
use Rattle.session_core.specs.declared.message.Message.{Message}
use Rattle.session_core.specs.declared.state.State.{State}
use Rattle.session_core.specs.State.{is_up}
use Rattle.session_core.specs.declared.plan.Span.{Span}
use Rattle.session_core.specs.declared.plan.Plan.{Plan}

-- some messages are sent
abbrev pub says : State → List Message → Plan
says state messages = record { state = state; reset = false; resend = None; messages = messages; request = None }

-- nothing is sent
abbrev pub stays : State → Plan
stays state = says state []

-- the message is handed out
abbrev pub hands_out : State → Incoming → Plan
hands_out state incoming =
    record {
      state = state;
      reset = false;
      resend = None;
      messages = [];
      request = Some (record { number = incoming.number; kind = incoming.kind });
    }

-- messages are sent again
abbrev pub sends_again : State → Span → Plan
sends_again state span = record { state = state; reset = false; resend = Some span; messages = []; request = None }

-- where it hands something out, the session is up behind it
abbrev pub HandsOutUp : Plan → Type 0
HandsOutUp plan = OnSome plan.request (is_up plan.state ≡ true)
