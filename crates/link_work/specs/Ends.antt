-- The end of a session over a link, by what ended it.
use Rattle.std.specs.Prelude.{ℕ, List, ◌++◌, codes, decimal}
use Rattle.session_core.specs.declared.state.EndCause.{EndCause}
use Rattle.session_core.specs.declared.state.EndCause.TheVariants as cause
use Rattle.member_gate.specs.declared.refusal.DeskRefusal.{DeskRefusal}
use Rattle.member_gate.specs.declared.refusal.DeskRefusal.TheVariants as refusal
use Rattle.link_work.specs.declared.ends.LinkEnd.{LinkEnd}
use Rattle.link_work.specs.declared.ends.LinkEnd.TheVariants as link

-- the end of the member's session
abbrev pub end_of : EndCause → LinkEnd
end_of cause.Logout = link.Logout
end_of cause.TooLow = link.TooLow
end_of cause.NotLogon = link.NotLogon
end_of cause.BadLogon = link.BadLogon
end_of cause.NoNumber = link.NoNumber
end_of cause.WrongName = link.WrongName
end_of cause.Silent = link.Silent
end_of cause.TooLong = link.TooLong

-- the end at a refused piece
abbrev pub refused : DeskRefusal → LinkEnd
refused (refusal.Full symbol found) = link.Full symbol found
refused refusal.NoMemory = link.NoMemory

-- what a person reads of an end
abbrev pub end_text : LinkEnd → List ℕ
end_text link.Logout = codes "logged out"
end_text link.PeerEnd = codes "the peer ended"
end_text link.TooLow = codes "a number too low"
end_text link.NotLogon = codes "no logon"
end_text link.BadLogon = codes "a bad logon"
end_text link.NoNumber = codes "no number"
end_text link.WrongName = codes "a wrong name"
end_text link.InUse = codes "the member is connected"
end_text link.Silent = codes "silence"
end_text link.TooLong = codes "a frame too long"
end_text (link.Full symbol found) =
    codes "symbol " ++ (decimal symbol ++ (codes " is full at " ++ (decimal found ++ codes " events")))
end_text link.LinkFault = codes "a fault of the link"
end_text link.NoMemory = codes "out of memory"
