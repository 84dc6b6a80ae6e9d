-- The bodies of reports, field by field.
use Rattle.std.specs.Prelude.{ℕ, if◌then◌else◌, List, [], ◌∷◌, ◌++◌, decimal, Option, Some, None, option_map}
use Rattle.venue_words.specs.declared.report.Report.{Report}
use Rattle.fix_write.specs.declared.message_type.MessageType.{MessageType}
use Rattle.fix_write.specs.declared.message_type.MessageType.TheVariants.{CancelReject, ExecutionReport}
use Rattle.fix_write.specs.Fields.{field}
use Rattle.fix_write.specs.Moments.{moment_text}
use Rattle.exec_reports.specs.declared.tags.TheConstants.{ORDER_ID, CL_ORD_ID, ORIG_CL_ORD_ID, EXEC_ID, EXEC_TYPE, ORD_STATUS, ORD_REJ_REASON, SYMBOL, SIDE, ORDER_QTY, ORD_TYPE, PRICE, LAST_QTY, LAST_PX, LEAVES_QTY, CUM_QTY, AVG_PX, TRANSACT_TIME, PEGGED_PRICE, PRIORITY_EVENT, RULE_NUMBER, CXL_REJ_RESPONSE_TO, CXL_REJ_REASON}
use Rattle.exec_reports.specs.Texts.{order_id, exec_id, price_text, average_text}
use Rattle.exec_reports.specs.Parts.{first_in, id_in, orig_in, exec_type, status_in, reason_in, side_in, quantity_in, type_in, limit_in, last_quantity_in, last_price_in, leaves_in, cum_in, notional_in, price_in, time_in, rule_in, answer_in, refusal_in, is_refusal}

-- a value of one byte
abbrev pub byte : ℕ → List ℕ
byte code = code ∷ []

-- a field that is there only where it has a value
abbrev pub field_if : ℕ → Option (List ℕ) → List ℕ
field_if tag None = []
field_if tag (Some value) = field tag value

-- the body of an execution report (35=8)
unfoldable pub execution_body : Report → List ℕ → List ℕ → List ℕ
execution_body report symbol member =
    field ORDER_ID (order_id symbol (first_in report.kind))
    ++ field CL_ORD_ID (id_in report.kind)
    ++ field_if ORIG_CL_ORD_ID (orig_in report.kind)
    ++ field EXEC_ID (exec_id symbol member report.event report.place)
    ++ field EXEC_TYPE (byte (exec_type report.kind))
    ++ field ORD_STATUS (byte (status_in report.kind))
    ++ field_if ORD_REJ_REASON (option_map decimal (reason_in report.event report.kind))
    ++ field SYMBOL symbol
    ++ field SIDE (byte (side_in report.kind))
    ++ field_if ORDER_QTY (quantity_in report.kind)
    ++ field_if ORD_TYPE (option_map byte (type_in report.kind))
    ++ field_if PRICE (option_map price_text (limit_in report.kind))
    ++ field_if LAST_QTY (option_map decimal (last_quantity_in report.kind))
    ++ field_if LAST_PX (option_map price_text (last_price_in report.kind))
    ++ field LEAVES_QTY (decimal (leaves_in report.kind))
    ++ field CUM_QTY (decimal (cum_in report.kind))
    ++ field AVG_PX (average_text (notional_in report.kind) (cum_in report.kind))
    ++ field TRANSACT_TIME (moment_text report.moment)
    ++ field_if PEGGED_PRICE (option_map price_text (price_in report.kind))
    ++ field_if PRIORITY_EVENT (option_map decimal (time_in report.kind))
    ++ field_if RULE_NUMBER (option_map decimal (rule_in report.kind))

-- the body of a cancel reject (35=9)
unfoldable pub refusal_body : Report → List ℕ → List ℕ
refusal_body report symbol =
    field ORDER_ID (order_id symbol (first_in report.kind))
    ++ field CL_ORD_ID (id_in report.kind)
    ++ field_if ORIG_CL_ORD_ID (orig_in report.kind)
    ++ field ORD_STATUS (byte (status_in report.kind))
    ++ field_if CXL_REJ_RESPONSE_TO (option_map byte (answer_in report.kind))
    ++ field_if CXL_REJ_REASON (option_map decimal (refusal_in report.kind))
    ++ field TRANSACT_TIME (moment_text report.moment)
    ++ field_if RULE_NUMBER (option_map decimal (rule_in report.kind))

-- the body of a report: a cancel reject for a refusal, an execution report for the rest
unfoldable pub body_of : Report → List ℕ → List ℕ → List ℕ
body_of report symbol member =
    if is_refusal report.kind then refusal_body report symbol else execution_body report symbol member

-- its type: a cancel reject for a refusal, an execution report for the rest
unfoldable pub kind_of : Report → MessageType
kind_of report = if is_refusal report.kind then CancelReject else ExecutionReport
