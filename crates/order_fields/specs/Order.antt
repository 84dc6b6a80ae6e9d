-- What an order asks for, or the first reason for which it is refused.
use Rattle.std.specs.Prelude.{◌≡◌, ◌<◌, ℕ, not, if◌then◌else◌, List, length, Option, Some, None, Result, Ok, Err, bytes_eq, true, ℤ}
use Rattle.std.specs.List.{position}
use Rattle.fix_fields.specs.declared.field.Field.{Field}
use Rattle.venue_words.specs.declared.rule.Rule.TheVariants.{UnknownSymbol}
use Rattle.venue_words.specs.declared.command.Command.{Command}
use Rattle.venue_words.specs.declared.command.Command.TheVariants.{New, Cancel, Replace, Status}
use Rattle.venue_words.specs.declared.config.Config.{Config}
use Rattle.venue_words.specs.declared.report.Kind.{Kind}
use Rattle.venue_words.specs.declared.report.Kind.TheVariants.{Rejected, Refused, Unknown}
use Rattle.venue_words.specs.declared.report.RefusedRequest.{RefusedRequest}
use Rattle.venue_words.specs.declared.report.RefusedRequest.TheVariants as refused
use Rattle.fix_write.specs.declared.message_type.MessageType.{MessageType}
use Rattle.fix_write.specs.declared.message_type.MessageType.TheVariants.{NewOrder, CancelRequest, ReplaceRequest}
use Rattle.fix_write.specs.MessageTypes.{is_order}
use Rattle.venue_words.specs.Conditions.{fits_limits}
use Rattle.venue_words.specs.Floors.{Setup, is_configured}
use Rattle.session_core.specs.declared.checks.FailedCheck.{FailedCheck}
use Rattle.session_core.specs.declared.message.Request.{Request}
use Rattle.session_core.specs.Lookup.{text_in}
use Rattle.session_core.specs.Checks.{first_failed}
use Rattle.order_fields.specs.declared.order.Refusal.{Refusal}
use Rattle.order_fields.specs.declared.order.Refusal.TheVariants.{Reject, Business, NoMemory}
use Rattle.order_fields.specs.declared.order.Decoded.{Decoded}
use Rattle.order_fields.specs.declared.order.Decoded.TheVariants.{Book, Stray}
use Rattle.order_fields.specs.declared.tags.TheConstants.{CL_ORD_ID, ORIG_CL_ORD_ID, SYMBOL, SIDE, ORDER_QTY}
use Rattle.order_fields.specs.Tables.{required_of, optional_of}
use Rattle.order_fields.specs.Reading.{code_or_zero, amount_or_zero, terms_of}

-- the command that an order asks of a book
unfoldable pub command_of : MessageType → ℕ → List Field → Command
command_of NewOrder member fields = New member (text_in CL_ORD_ID fields) (terms_of fields)
command_of CancelRequest member fields =
    Cancel member (text_in CL_ORD_ID fields) (text_in ORIG_CL_ORD_ID fields)
command_of ReplaceRequest member fields =
    Replace member (text_in CL_ORD_ID fields) (text_in ORIG_CL_ORD_ID fields) (terms_of fields)
command_of _ member fields = Status member (text_in CL_ORD_ID fields) (code_or_zero SIDE fields)

-- ---- orders of a symbol that is not configured

-- the refusal of a cancel or of a replace: it names no order
abbrev pub stray_refusal : List Field → List ℕ → RefusedRequest → Kind
stray_refusal fields id request = Refused id (text_in ORIG_CL_ORD_ID fields) None request UnknownSymbol

-- what answers an order
unfoldable pub stray_kind : MessageType → List Field → Kind
stray_kind NewOrder fields =
    Rejected (text_in CL_ORD_ID fields) (code_or_zero SIDE fields) (amount_or_zero ORDER_QTY fields) UnknownSymbol
stray_kind CancelRequest fields = stray_refusal fields (text_in CL_ORD_ID fields) refused.Cancel
stray_kind ReplaceRequest fields = stray_refusal fields (text_in CL_ORD_ID fields) refused.Replace
stray_kind _ fields = Unknown (text_in CL_ORD_ID fields) (code_or_zero SIDE fields)

-- ---- orders

-- the number of a symbol
abbrev pub symbol_of : List (List ℕ) → List ℕ → Option ℕ
symbol_of symbols name = position (λ symbol. bytes_eq symbol name) symbols

abbrev pub decoded_at : Request → ℕ → ℤ → Option ℕ → Decoded
decoded_at request member moment None =
    Stray
    (record {
      event = 0;
      place = request.number;
      member = member;
      moment = moment;
      kind = stray_kind request.kind request.fields;
    })
decoded_at request member moment (Some symbol) = Book symbol (command_of request.kind member request.fields)

-- what an order that passes the checks asks for
unfoldable pub decoded_of : Request → ℕ → Config → ℤ → Decoded
decoded_of request member config moment =
    decoded_at request member moment (symbol_of config.symbols (text_in SYMBOL request.fields))

abbrev pub unless_failed : Option FailedCheck → Decoded → Result Decoded Refusal
unless_failed None decoded = Ok decoded
unless_failed (Some failed) decoded = Err (Reject failed.reason failed.tag)

-- the first check that an order fails, of those of every message and its own type together
abbrev pub failed_of : Request → Option FailedCheck
failed_of request = first_failed (required_of request.kind) (optional_of request.kind) request.fields

-- what a message asks for, or the first refusal
unfoldable pub order : Request → ℕ → Config → ℤ → Result Decoded Refusal
order request member config moment =
    if not (is_order request.kind) then Err Business
    else unless_failed (failed_of request) (decoded_of request member config moment)

-- ---- what is promised

-- a refusal is the one that is meant, but memory may be wanted at any time
abbrev pub Refuses : Refusal → Result Decoded Refusal → Type 0
Refuses NoMemory meant = Unit {0}
Refuses (Reject reason tag) meant = meant ≡ Err (Reject reason tag)
Refuses Business meant = meant ≡ Err Business

-- an answer is the one that is meant, but memory may be wanted at any time
abbrev pub Answers : Result Decoded Refusal → Result Decoded Refusal → Type 0
Answers (Ok decoded) meant = meant ≡ Ok decoded
Answers (Err refusal) meant = Refuses refusal meant

-- a command is of configured things and within the limits, as a floor needs it
abbrev pub CanSubmit : Setup → Decoded → Type 0
CanSubmit setup (Book symbol command) =
    (symbol < length setup.limits) × (is_configured setup command ≡ true) × (fits_limits command ≡ true)
CanSubmit setup (Stray report) = Unit {0}
