-- What a listing tells of a command.
use Rattle.std.specs.Prelude.{ℕ, List, [], ◌∷◌, ◌++◌, codes, decimal, slice_get, unwrap_or, Option, option_map}
use Rattle.venue_words.specs.declared.command.Command.{Command}
use Rattle.venue_words.specs.declared.command.Command.TheVariants.{Quote, New, Cancel, Replace, Status}
use Rattle.venue_words.specs.declared.terms.Terms.{Terms}
use Rattle.venue_words.specs.declared.config.Config.{Config}
use Rattle.fix_write.specs.declared.message_type.MessageType.{MessageType}
use Rattle.fix_write.specs.declared.message_type.MessageType.TheVariants.{NewOrder, CancelRequest, ReplaceRequest, StatusRequest}
use Rattle.fix_write.specs.Fields.{field}
use Rattle.fix_write.specs.MessageTypes.{byte_of}
use Rattle.order_fields.specs.declared.tags.TheConstants.{CL_ORD_ID, ORIG_CL_ORD_ID, SIDE, ORDER_QTY, ORD_TYPE, PRICE, TIME_IN_FORCE, MIN_QTY, MIN_QTY_METHOD, PEG_PRICE_TYPE, PEG_OFFSET_VALUE, PEG_OFFSET_TYPE, PEG_MOVE_TYPE, PEG_ROUND_DIRECTION}
use Rattle.exec_reports.specs.Bodies.{byte, field_if}
use Rattle.exec_reports.specs.Texts.{amount_text}
use Rattle.quote_text.specs.Sides.{side_text}
use Rattle.script_text.specs.Escaping.{escape_text}

-- the name at a place; behind the last there is none, and that is written as nothing
abbrev pub name_at : List (List ℕ) → ℕ → List ℕ
name_at names place = unwrap_or (slice_get names place) []

-- a further word of a line: a space stands before it
abbrev pub word : List ℕ → List ℕ
word text = 32 ∷ text

-- ---- quotes

unfoldable pub quote_text : List ℕ → Option ℕ → Option ℕ → List ℕ
quote_text market bid offer = codes "Q" ++ word market ++ word (side_text bid) ++ word (side_text offer)

-- ---- orders and requests

-- what is to be traded: those fields that were received
unfoldable pub order_terms : Terms → List ℕ
order_terms terms =
    field SIDE (byte terms.side)
    ++ field ORDER_QTY (amount_text terms.quantity)
    ++ field ORD_TYPE (byte terms.kind)
    ++ field_if PRICE (option_map amount_text terms.price)
    ++ field_if TIME_IN_FORCE (option_map byte terms.force)
    ++ field_if MIN_QTY (option_map amount_text terms.minimum)
    ++ field_if MIN_QTY_METHOD (option_map decimal terms.method)

-- how it is pegged: those fields that were received
unfoldable pub peg_terms : Terms → List ℕ
peg_terms terms =
    field_if PEG_PRICE_TYPE (option_map decimal terms.peg)
    ++ field_if PEG_OFFSET_VALUE (option_map amount_text terms.offset)
    ++ field_if PEG_OFFSET_TYPE (option_map decimal terms.offset_kind)
    ++ field_if PEG_MOVE_TYPE (option_map decimal terms.moves)
    ++ field_if PEG_ROUND_DIRECTION (option_map decimal terms.round)

-- the terms of an order
abbrev pub terms_fields : Terms → List ℕ
terms_fields terms = order_terms terms ++ peg_terms terms

-- what a member asks: the message's type, the member's name, and the fields as text
unfoldable pub request_text : MessageType → List ℕ → List ℕ → List ℕ
request_text kind member fields = byte (byte_of kind) ++ word member ++ word (escape_text fields)

-- ---- commands

unfoldable pub command_text : Config → Command → List ℕ
command_text config (Quote market bid offer) = quote_text (name_at config.markets market) bid offer
command_text config (New member id terms) =
    request_text NewOrder (name_at config.members member) (field CL_ORD_ID id ++ terms_fields terms)
command_text config (Cancel member id orig) =
    request_text CancelRequest (name_at config.members member) (field CL_ORD_ID id ++ field ORIG_CL_ORD_ID orig)
command_text config (Replace member id orig terms) =
    request_text ReplaceRequest (name_at config.members member) (field CL_ORD_ID id ++ field ORIG_CL_ORD_ID orig ++ terms_fields terms)
command_text config (Status member id side) =
    request_text StatusRequest (name_at config.members member) (field CL_ORD_ID id ++ field SIDE (byte side))
