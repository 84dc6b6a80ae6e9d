-- Answers that several cases share.
use Rattle.std.specs.Prelude.{ℕ, if◌then◌else◌, List, [], ◌∷◌, Option, Some, None, codes}
use Rattle.fix_write.specs.declared.tags.TheConstants.{MSG_TYPE}
use Rattle.session_core.specs.declared.reasons.TheConstants.{WRONG_NAME}
use Rattle.session_core.specs.declared.checks.FailedCheck.{FailedCheck}
use Rattle.session_core.specs.declared.message.Incoming.{Incoming}
use Rattle.session_core.specs.declared.state.EndCause.{EndCause}
use Rattle.session_core.specs.declared.state.EndCause.TheVariants.{WrongName}
use Rattle.session_core.specs.declared.state.State.{State}
use Rattle.session_core.specs.declared.plan.Plan.{Plan}
use Rattle.session_core.specs.Lookup.{text_in}
use Rattle.session_core.specs.State.{ended, is_up}
use Rattle.session_core.specs.Bodies.{logout, reject}
use Rattle.session_core.specs.Plan.{says, stays}

-- a Logout is sent, and the connection ends
unfoldable pub logs_out : State → EndCause → List ℕ → Plan
logs_out state cause text = says (ended cause state) (logout text ∷ [])

-- the connection ends; a Logout is sent where a Logon was taken
unfoldable pub drops : State → EndCause → List ℕ → Plan
drops state cause text = if is_up state then logs_out state cause text else stays (ended cause state)

-- a Reject of the message is sent
unfoldable pub rejects : State → Incoming → ℕ → ℕ → Plan
rejects state incoming tag reason =
    says state (reject incoming.number tag (text_in MSG_TYPE incoming.fields) reason ∷ [])

-- a message that fails a check is rejected, and any other one gets this plan
abbrev pub unless_failed : State → Incoming → Option FailedCheck → Plan → Plan
unless_failed state incoming None plan = plan
unless_failed state incoming (Some failed) plan = rejects state incoming failed.tag failed.reason

-- a message from or to somebody else ends the connection; it is rejected where a Logon was taken
unfoldable pub drops_wrong_name : State → Incoming → ℕ → Plan
drops_wrong_name state incoming tag =
    if is_up state
    then says (ended WrongName state)
    (reject incoming.number tag (text_in MSG_TYPE incoming.fields) WRONG_NAME
    ∷ logout (codes "WRONG NAME") ∷ [])
    else stays (ended WrongName state)
