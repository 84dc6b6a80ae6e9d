-- The names of the causes why a line is refused.
use Rattle.std.specs.Prelude.{ℕ, List, codes}
use Rattle.script_text.specs.declared.fault.LineCause.{LineCause}
use Rattle.script_text.specs.declared.fault.LineCause.TheVariants as cause
use Rattle.script_text.specs.declared.fault.LimitCause.{LimitCause}
use Rattle.script_text.specs.declared.fault.LimitCause.TheVariants as limit

unfoldable pub cause_name : LineCause → List ℕ
cause_name cause.NoEnd = codes "NoEnd"
cause_name cause.BadHeader = codes "BadHeader"
cause_name cause.BadWord = codes "BadWord"
cause_name cause.BadName = codes "BadName"
cause_name cause.DoubleName = codes "DoubleName"
cause_name cause.UnknownName = codes "UnknownName"
cause_name cause.BadNumber = codes "BadNumber"
cause_name cause.BadTick = codes "BadTick"
cause_name cause.BadPrice = codes "BadPrice"
cause_name cause.BadMoment = codes "BadMoment"
cause_name cause.BadText = codes "BadText"
cause_name cause.SharedMember = codes "SharedMember"

unfoldable pub limit_name : LimitCause → List ℕ
limit_name limit.Line = codes "Line"
limit_name limit.Bytes = codes "Bytes"
limit_name limit.Members = codes "Members"
limit_name limit.Markets = codes "Markets"
limit_name limit.Symbols = codes "Symbols"
limit_name limit.EventsSum = codes "EventsSum"
limit_name limit.Events = codes "Events"
