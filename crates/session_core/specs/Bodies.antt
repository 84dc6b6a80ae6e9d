-- The messages that the session itself sends.
use Rattle.std.specs.Prelude.{ℕ, ◌==◌, Bool, if◌then◌else◌, List, [], ◌++◌, length, codes, decimal}
use Rattle.fix_write.specs.Fields.{field}
use Rattle.fix_write.specs.declared.message_type.MessageType.{MessageType}
use Rattle.fix_write.specs.declared.message_type.MessageType.TheVariants.{Heartbeat, TestRequest, ResendRequest, Reject, Logout, Logon}
use Rattle.session_core.specs.declared.tags.TheConstants.{BEGIN_SEQ_NO, END_SEQ_NO, NEW_SEQ_NO, REF_SEQ_NUM, TEXT, ENCRYPT_METHOD, HEART_BT_INT, TEST_REQ_ID, GAP_FILL_FLAG, RESET_SEQ_NUM_FLAG, REF_TAG_ID, REF_MSG_TYPE, SESSION_REJECT_REASON, DEFAULT_APPL_VER_ID}
use Rattle.session_core.specs.declared.message.Message.{Message}

abbrev pub message : MessageType → List ℕ → Message
message kind body = record { kind = kind; body = body }

-- the answer to a Logon: its heartbeat interval as it was received, and whether numbers begin again
unfoldable pub logon : List ℕ → Bool → Message
logon interval reset =
    message Logon
    (field ENCRYPT_METHOD (codes "0") ++ field HEART_BT_INT interval ++ field DEFAULT_APPL_VER_ID (codes "9")
    ++ (if reset then field RESET_SEQ_NUM_FLAG (codes "Y") else []))

-- a Heartbeat that answers no TestRequest
unfoldable pub heartbeat : Message
heartbeat = message Heartbeat []

-- a Heartbeat that answers a TestRequest
unfoldable pub test_answer : List ℕ → Message
test_answer id = message Heartbeat (field TEST_REQ_ID id)

unfoldable pub test_request : Message
test_request = message TestRequest (field TEST_REQ_ID (codes "T"))

-- asks for all messages from a number on
unfoldable pub resend_request : ℕ → Message
resend_request first = message ResendRequest (field BEGIN_SEQ_NO (decimal first) ++ field END_SEQ_NO (codes "0"))

-- with no text there is no field
unfoldable pub logout : List ℕ → Message
logout text = message Logout (if length text == 0 then [] else field TEXT text)

-- rejects the message of a number and a type, for a tag and a reason
unfoldable pub reject : ℕ → ℕ → List ℕ → ℕ → Message
reject number tag kind reason =
    message Reject
    (field REF_SEQ_NUM (decimal number) ++ field REF_TAG_ID (decimal tag) ++ field REF_MSG_TYPE kind
    ++ field SESSION_REJECT_REASON (decimal reason))

-- the body of a SequenceReset that stands for messages of the session, up to before a number
unfoldable pub gap_body : ℕ → List ℕ
gap_body next = field GAP_FILL_FLAG (codes "Y") ++ field NEW_SEQ_NO (decimal next)
