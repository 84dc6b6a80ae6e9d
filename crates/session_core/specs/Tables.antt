-- The tags of each type of the session's messages, and their forms.
use Rattle.std.specs.Prelude.{ℕ, List, [], ◌∷◌, Option}
use Rattle.fix_fields.specs.declared.field.Field.{Field}
use Rattle.fix_write.specs.declared.message_type.MessageType.{MessageType}
use Rattle.fix_write.specs.declared.message_type.MessageType.TheVariants.{TestRequest, ResendRequest, SequenceReset, Logon}
use Rattle.fix_write.specs.declared.tags.TheConstants.{POSS_DUP_FLAG, SENDING_TIME}
use Rattle.session_core.specs.declared.tags.TheConstants.{BEGIN_SEQ_NO, END_SEQ_NO, NEW_SEQ_NO, ENCRYPT_METHOD, HEART_BT_INT, TEST_REQ_ID, GAP_FILL_FLAG, RESET_SEQ_NUM_FLAG, DEFAULT_APPL_VER_ID}
use Rattle.session_core.specs.declared.checks.Form.{Form}
use Rattle.session_core.specs.declared.checks.Form.TheVariants.{Number, Moment, Boolean, Text}
use Rattle.session_core.specs.declared.checks.Item.{Item}
use Rattle.session_core.specs.declared.checks.FailedCheck.{FailedCheck}
use Rattle.session_core.specs.Checks.{first_failed}

abbrev pub item : ℕ → Form → Item
item tag form = record { tag = tag; form = form }

-- the tags that a message must have, in order; those of every message first
unfoldable pub required_of : MessageType → List Item
required_of Logon =
    item SENDING_TIME Moment ∷ item ENCRYPT_METHOD Number ∷ item HEART_BT_INT Number ∷ item DEFAULT_APPL_VER_ID Text ∷ []
required_of TestRequest = item SENDING_TIME Moment ∷ item TEST_REQ_ID Text ∷ []
required_of ResendRequest = item SENDING_TIME Moment ∷ item BEGIN_SEQ_NO Number ∷ item END_SEQ_NO Number ∷ []
required_of SequenceReset = item SENDING_TIME Moment ∷ item NEW_SEQ_NO Number ∷ []
required_of _ = item SENDING_TIME Moment ∷ []

-- the tags that it may have, in order; those of every message first
unfoldable pub optional_of : MessageType → List Item
optional_of Logon = item POSS_DUP_FLAG Boolean ∷ item RESET_SEQ_NUM_FLAG Boolean ∷ []
optional_of SequenceReset = item POSS_DUP_FLAG Boolean ∷ item GAP_FILL_FLAG Boolean ∷ []
optional_of _ = item POSS_DUP_FLAG Boolean ∷ []

-- the first check of the session's own that a message of a type fails
unfoldable pub failed_of : MessageType → List Field → Option FailedCheck
failed_of kind fields = first_failed (required_of kind) (optional_of kind) fields
