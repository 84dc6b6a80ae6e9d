-- What a ResendRequest asks.
use Rattle.std.specs.Prelude.{ℕ, ◌==◌, not, ◌&&◌, ◌||◌, nat_lt, if◌then◌else◌, [], ◌∷◌, ◌++◌}
use Rattle.session_core.specs.declared.tags.TheConstants.{BEGIN_SEQ_NO, END_SEQ_NO}
use Rattle.session_core.specs.declared.reasons.TheConstants.{VALUE_OUT_OF_RANGE}
use Rattle.session_core.specs.declared.message.Incoming.{Incoming}
use Rattle.session_core.specs.declared.state.State.{State}
use Rattle.session_core.specs.declared.plan.Span.{Span}
use Rattle.session_core.specs.declared.plan.Plan.{Plan}
use Rattle.session_core.specs.Lookup.{number_or_zero}
use Rattle.session_core.specs.Bodies.{resend_request}
use Rattle.session_core.specs.Plan.{sends_again}
use Rattle.session_core.specs.Answers.{rejects}

-- the last number that is sent again: 0 and what is above the last number sent stand for that one
abbrev pub last_of : Span → ℕ → ℕ
last_of asked sent = if (asked.last == 0) || nat_lt sent asked.last then sent else asked.last

-- messages are sent again from a first number to a last one, where `sent` is the last number that was sent
unfoldable pub resends : State → Incoming → ℕ → Span → Plan
resends state incoming sent asked =
    if (asked.first == 0) || nat_lt sent asked.first then rejects state incoming BEGIN_SEQ_NO VALUE_OUT_OF_RANGE
    else (if not (asked.last == 0) && nat_lt asked.last asked.first
    then rejects state incoming END_SEQ_NO VALUE_OUT_OF_RANGE
    else sends_again state (record { first = asked.first; last = last_of asked sent }))

-- what a ResendRequest that passes the checks asks
unfoldable pub on_resend_request : State → Incoming → ℕ → Plan
on_resend_request state incoming sent =
    resends state incoming sent
    (record { first = number_or_zero BEGIN_SEQ_NO incoming.fields; last = number_or_zero END_SEQ_NO incoming.fields })

-- the plan, and a ResendRequest behind all that it sends
abbrev pub then_asks_again : Plan → ℕ → Plan
then_asks_again plan next = record plan { messages = plan.messages ++ resend_request next ∷ [] }
