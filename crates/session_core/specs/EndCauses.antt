-- The causes for which a connection ends, in words.
use Rattle.std.specs.Prelude.{ℕ, List, codes}
use Rattle.session_core.specs.declared.state.EndCause.{EndCause}
use Rattle.session_core.specs.declared.state.EndCause.TheVariants as cause

unfoldable pub end_text : EndCause → List ℕ
end_text cause.Logout = codes "the member logs out"
end_text cause.TooLow = codes "MsgSeqNum (34) is lower than the one to come, and PossDupFlag (43) is not Y"
end_text cause.NotLogon = codes "the first message of a connection is no Logon, and nothing is sent before one"
end_text cause.BadLogon = codes "the Logon fails a check, or asks for what this venue does not do"
end_text cause.NoNumber = codes "MsgSeqNum (34) is missing, or is no number from 1 to 999999999"
end_text cause.WrongName = codes "SenderCompID (49) is not the member, or TargetCompID (56) is not PEGV"
end_text cause.Silent = codes "nothing came for three heartbeat intervals"
end_text cause.TooLong = codes "a message declares more than 8192 bytes"
