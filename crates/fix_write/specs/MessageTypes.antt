-- MsgType(35): the types of messages, each one byte.
use Rattle.std.specs.Prelude.{ℕ, ◌==◌, Bool, true, false, List, [], ◌∷◌, unwrap_or}
use Rattle.std.specs.List.{find}
use Rattle.fix_write.specs.declared.message_type.MessageType.{MessageType}
use Rattle.fix_write.specs.declared.message_type.MessageType.TheVariants.{Heartbeat, TestRequest, ResendRequest, Reject, SequenceReset, Logout, ExecutionReport, CancelReject, Logon, NewOrder, CancelRequest, ReplaceRequest, StatusRequest, MarketDataSnapshot, BusinessReject, Other}

-- the byte of a type: `0` to `5`, `8`, `9`, `A`, `D`, `F`, `G`, `H`, `W` and `j`, and any other one of no type here
unfoldable pub byte_of : MessageType → ℕ
byte_of Heartbeat = 48
byte_of TestRequest = 49
byte_of ResendRequest = 50
byte_of Reject = 51
byte_of SequenceReset = 52
byte_of Logout = 53
byte_of ExecutionReport = 56
byte_of CancelReject = 57
byte_of Logon = 65
byte_of NewOrder = 68
byte_of CancelRequest = 70
byte_of ReplaceRequest = 71
byte_of StatusRequest = 72
byte_of MarketDataSnapshot = 87
byte_of BusinessReject = 106
byte_of (Other byte) = byte

-- the types that have names
abbrev pub named : List MessageType
named =
    Heartbeat ∷ TestRequest ∷ ResendRequest ∷ Reject ∷ SequenceReset ∷ Logout ∷ ExecutionReport ∷ CancelReject ∷ Logon
    ∷ NewOrder ∷ CancelRequest ∷ ReplaceRequest ∷ StatusRequest ∷ MarketDataSnapshot ∷ BusinessReject ∷ []

-- the type that a byte stands for: the one of that byte, or some other type
unfoldable pub type_of : ℕ → MessageType
type_of byte = unwrap_or (find (λ kind. byte_of kind == byte) named) (Other byte)

-- whether it is the type of an order
unfoldable pub is_order : MessageType → Bool
is_order NewOrder = true
is_order CancelRequest = true
is_order ReplaceRequest = true
is_order StatusRequest = true
is_order _ = false
