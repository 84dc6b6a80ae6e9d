-- What each frame and each tick asks of a session that has not ended. The first case that fits decides.
use Rattle.std.specs.Prelude.{ℕ, ◌*◌, ◌==◌, Bool, not, ◌&&◌, if◌then◌else◌, List, [], ◌∷◌, codes, ℤ, pos, ◌-ℤ◌, int_le, true}
use Rattle.venue_words.specs.Limits.{venue}
use Rattle.fix_write.specs.declared.tags.TheConstants.{SENDER_COMP_ID, TARGET_COMP_ID}
use Rattle.session_core.specs.declared.message.Incoming.{Incoming}
use Rattle.session_core.specs.declared.state.EndCause.TheVariants.{NoNumber, Silent, TooLong}
use Rattle.session_core.specs.declared.state.State.{State}
use Rattle.session_core.specs.declared.plan.Plan.{Plan}
use Rattle.session_core.specs.Lookup.{is_value}
use Rattle.session_core.specs.State.{is_up}
use Rattle.session_core.specs.Bodies.{heartbeat, test_request}
use Rattle.session_core.specs.Plan.{says, stays}
use Rattle.session_core.specs.Answers.{logs_out, drops, drops_wrong_name}
use Rattle.session_core.specs.Logon.{before_logon}
use Rattle.session_core.specs.Sequence.{when_up}

-- what a message without a number asks
abbrev pub on_no_number : State → Plan
on_no_number state = drops state NoNumber (codes "NO NUMBER")

-- what a message of a number asks of a member's session, where `sent` is the last number that was sent
unfoldable pub on_message : List ℕ → ℕ → State → Incoming → Plan
on_message member sent state incoming =
    if not (is_value SENDER_COMP_ID member incoming.fields) then drops_wrong_name state incoming SENDER_COMP_ID
    else (if not (is_value TARGET_COMP_ID venue incoming.fields)
    then drops_wrong_name state incoming TARGET_COMP_ID
    else (if is_up state then when_up state incoming sent else before_logon incoming.kind state incoming))

-- what a frame that is too long asks
unfoldable pub on_too_long : State → Plan
on_too_long state = drops state TooLong (codes "TOO LONG")

-- whether so many milliseconds have passed
abbrev pub has_passed : ℕ → ℤ → ℤ → Bool
has_passed milliseconds before moment = int_le (pos milliseconds) (moment -ℤ before)

-- what a tick asks of a session that is up
unfoldable pub on_tick : ℤ → State → Plan
on_tick moment state =
    if state.heartbeat == 0 then stays state
    else (if has_passed (3000 * state.heartbeat) state.received moment then logs_out state Silent (codes "SILENT")
    else (if not state.test_out && has_passed (2000 * state.heartbeat) state.received moment
    then says (record state { test_out = true }) (test_request ∷ [])
    else (if has_passed (1000 * state.heartbeat) state.sent_at moment then says state (heartbeat ∷ [])
    else stays state)))
