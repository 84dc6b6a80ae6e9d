-- The tags of each type of order, and their forms.
use Rattle.std.specs.Prelude.{List, [], ◌∷◌}
use Rattle.fix_write.specs.declared.message_type.MessageType.{MessageType}
use Rattle.fix_write.specs.declared.message_type.MessageType.TheVariants.{NewOrder, CancelRequest, ReplaceRequest}
use Rattle.fix_write.specs.declared.tags.TheConstants.{POSS_DUP_FLAG, SENDING_TIME}
use Rattle.session_core.specs.declared.checks.Form.TheVariants.{Number, Amount, Byte, Moment, Boolean, Text, Identifier}
use Rattle.session_core.specs.declared.checks.Item.{Item}
use Rattle.session_core.specs.Tables.{item}
use Rattle.order_fields.specs.declared.tags.TheConstants.{CL_ORD_ID, ORIG_CL_ORD_ID, SYMBOL, SIDE, ORDER_QTY, ORD_TYPE, TRANSACT_TIME, PRICE, TIME_IN_FORCE, MIN_QTY, MIN_QTY_METHOD, PEG_PRICE_TYPE, PEG_OFFSET_VALUE, PEG_OFFSET_TYPE, PEG_MOVE_TYPE, PEG_ROUND_DIRECTION}

-- what every order has behind its identifiers, what a cancel has too, and what a new or replacing order has
abbrev pub asked : List Item
asked = item SYMBOL Text ∷ item SIDE Byte ∷ []

abbrev pub canceling : List Item
canceling = item SYMBOL Text ∷ item SIDE Byte ∷ item TRANSACT_TIME Moment ∷ []

abbrev pub ordering : List Item
ordering =
    item SYMBOL Text ∷ item SIDE Byte ∷ item ORDER_QTY Amount ∷ item ORD_TYPE Byte ∷ item TRANSACT_TIME Moment ∷ []

-- what an order must have behind ClOrdID(11)
unfoldable pub behind_id : MessageType → List Item
behind_id NewOrder = ordering
behind_id CancelRequest = item ORIG_CL_ORD_ID Identifier ∷ canceling
behind_id ReplaceRequest = item ORIG_CL_ORD_ID Identifier ∷ ordering
behind_id _ = asked

-- the tags that an order must have, in order; those of every message first
unfoldable pub required_of : MessageType → List Item
required_of kind = item SENDING_TIME Moment ∷ item CL_ORD_ID Identifier ∷ behind_id kind

-- what a new or replacing order may have
abbrev pub priced : List Item
priced =
    item POSS_DUP_FLAG Boolean ∷ item PRICE Amount ∷ item TIME_IN_FORCE Byte ∷ item MIN_QTY Amount
    ∷ item MIN_QTY_METHOD Number ∷ item PEG_PRICE_TYPE Number ∷ item PEG_OFFSET_VALUE Amount
    ∷ item PEG_OFFSET_TYPE Number ∷ item PEG_MOVE_TYPE Number ∷ item PEG_ROUND_DIRECTION Number ∷ []

-- the tags that it may have, in order; those of every message first
unfoldable pub optional_of : MessageType → List Item
optional_of NewOrder = priced
optional_of ReplaceRequest = priced
optional_of _ = item POSS_DUP_FLAG Boolean ∷ []
