-- What a frame asks of a session before its Logon.
use Rattle.std.specs.Prelude.{ℕ, ◌+◌, ◌==◌, Bool, false, not, ◌&&◌, ◌||◌, nat_lt, if◌then◌else◌, List, [], ◌∷◌, is_some, None, codes}
use Rattle.std.specs.Option.{option_map_or}
use Rattle.fix_write.specs.declared.message_type.MessageType.{MessageType}
use Rattle.fix_write.specs.declared.message_type.MessageType.TheVariants.{Logon}
use Rattle.session_core.specs.declared.tags.TheConstants.{ENCRYPT_METHOD, HEART_BT_INT, RESET_SEQ_NUM_FLAG, DEFAULT_APPL_VER_ID}
use Rattle.session_core.specs.declared.message.Incoming.{Incoming}
use Rattle.session_core.specs.declared.message.Message.{Message}
use Rattle.session_core.specs.declared.state.EndCause.TheVariants.{TooLow, NotLogon, BadLogon}
use Rattle.session_core.specs.declared.state.Phase.TheVariants.{Up}
use Rattle.session_core.specs.declared.state.State.{State}
use Rattle.session_core.specs.declared.plan.Plan.{Plan}
use Rattle.session_core.specs.Lookup.{number_in, number_or_zero, text_in, is_value, is_yes}
use Rattle.session_core.specs.Tables.{failed_of}
use Rattle.session_core.specs.State.{ended}
use Rattle.session_core.specs.Bodies.{logon, resend_request}
use Rattle.session_core.specs.Plan.{stays}
use Rattle.session_core.specs.Answers.{logs_out}

-- whether a Logon fails a check, or asks for what this venue does not do: encryption, another version, a heartbeat
-- interval above an hour, or to begin again at number 1 with another number
unfoldable pub is_bad_logon : Incoming → Bool
is_bad_logon incoming =
    is_some (failed_of Logon incoming.fields)
    || not (option_map_or (λ n. n == 0) (number_in ENCRYPT_METHOD incoming.fields) false)
    || not (is_value DEFAULT_APPL_VER_ID (codes "9") incoming.fields)
    || nat_lt 3600 (number_or_zero HEART_BT_INT incoming.fields)
    || (is_yes RESET_SEQ_NUM_FLAG incoming.fields && not (incoming.number == 1))

-- the state after a Logon, where `next` is the number that it was to have
abbrev pub logged_on : State → Incoming → ℕ → State
logged_on state incoming next =
    record state {
      phase = Up;
      heartbeat = number_or_zero HEART_BT_INT incoming.fields;
      next_in = if incoming.number == next then incoming.number + 1 else next;
    }

-- the answer to a Logon; one that came too early is followed by a ResendRequest
abbrev pub logon_answers : Incoming → Bool → ℕ → List Message
logon_answers incoming reset next =
    if nat_lt next incoming.number
    then logon (text_in HEART_BT_INT incoming.fields) reset ∷ resend_request next ∷ []
    else logon (text_in HEART_BT_INT incoming.fields) reset ∷ []

unfoldable pub takes_logon : State → Incoming → Bool → ℕ → Plan
takes_logon state incoming reset next =
    record {
      state = logged_on state incoming next;
      reset = reset;
      resend = None;
      messages = logon_answers incoming reset next;
      request = None;
    }

-- the number that a Logon is to have
abbrev pub next_of_logon : State → Incoming → ℕ
next_of_logon state incoming = if is_yes RESET_SEQ_NUM_FLAG incoming.fields then 1 else state.next_in

unfoldable pub on_logon : State → Incoming → Plan
on_logon state incoming =
    if is_bad_logon incoming then logs_out state BadLogon (codes "BAD LOGON")
    else (if nat_lt incoming.number (next_of_logon state incoming) then logs_out state TooLow (codes "TOO LOW")
    else takes_logon state incoming (is_yes RESET_SEQ_NUM_FLAG incoming.fields) (next_of_logon state incoming))

-- what any message asks before the Logon, by its type
unfoldable pub before_logon : MessageType → State → Incoming → Plan
before_logon Logon state incoming = on_logon state incoming
before_logon _ state incoming = stays (ended NotLogon state)
