-- What a message that a session hands out gets: an answer that is framed at once, or a command for a symbol's book.
use Rattle.std.specs.Prelude.{ℕ, ℤ, List, [], ◌∷◌, ◌++◌, slice_get, unwrap_or, codes, decimal, Result, Ok, Err}
use Rattle.fix_write.specs.declared.message_type.MessageType.TheVariants.{BusinessReject}
use Rattle.fix_write.specs.declared.tags.TheConstants.{MSG_TYPE}
use Rattle.fix_write.specs.Fields.{field}
use Rattle.venue_words.specs.declared.command.Command.{Command}
use Rattle.venue_words.specs.declared.config.Config.{Config}
use Rattle.venue_words.specs.declared.report.Report.{Report}
use Rattle.session_core.specs.declared.message.Message.{Message}
use Rattle.session_core.specs.declared.message.Request.{Request}
use Rattle.session_core.specs.declared.tags.TheConstants.{REF_SEQ_NUM, REF_MSG_TYPE}
use Rattle.session_core.specs.Bodies.{message}
use Rattle.session_core.specs.Lookup.{text_in}
use Rattle.session_core.specs.Machine.{Machine, Outcome, on_send_one, on_reject}
use Rattle.order_fields.specs.declared.order.Decoded.{Decoded}
use Rattle.order_fields.specs.declared.order.Decoded.TheVariants.{Book, Stray}
use Rattle.order_fields.specs.declared.order.Refusal.{Refusal}
use Rattle.order_fields.specs.declared.order.Refusal.TheVariants.{Reject, Business, NoMemory}
use Rattle.order_fields.specs.declared.tags.TheConstants.{SYMBOL}
use Rattle.order_fields.specs.Order.{order}
use Rattle.exec_reports.specs.Bodies.{body_of, kind_of}
use Rattle.member_gate.specs.declared.business.TheConstants.{BUSINESS_REJECT_REASON}

-- a command for the book of a symbol
pub record Submission : Type 0 where
  pub symbol : ℕ
  pub command : Command

-- work that was done: the session behind it, the frames that are sent, and the commands that go to books
pub record Work : Type 0 where
  pub session : Machine
  pub replies : List (List ℕ)
  pub submissions : List Submission

-- nothing is done
abbrev pub idle : Machine → Work
idle session = record { session = session; replies = []; submissions = [] }

-- the session took a turn
abbrev pub turned : Outcome → Work
turned outcome = record { session = outcome.machine; replies = outcome.turn.replies; submissions = [] }

-- the session stays, and a command goes to a book
abbrev pub submits : Machine → ℕ → Command → Work
submits session symbol command =
    record { session = session; replies = []; submissions = record { symbol = symbol; command = command } ∷ [] }

-- the name at a place
abbrev pub name_at : List (List ℕ) → ℕ → List ℕ
name_at names place = unwrap_or (slice_get names place) []

-- a BusinessMessageReject of a message of this number and type: that type is not one of an order
unfoldable pub business_body : ℕ → List ℕ → List ℕ
business_body number kind =
    field REF_SEQ_NUM (decimal number) ++ field REF_MSG_TYPE kind ++ field BUSINESS_REJECT_REASON (codes "3")

-- a report as a message
abbrev pub message_of : List ℕ → List ℕ → Report → Message
message_of member symbol report = message (kind_of report) (body_of report symbol member)

-- the report that answers an order of a symbol that is not configured: it shows the symbol as it was received
abbrev pub answer_stray : List ℕ → ℤ → Machine → Request → Report → Work
answer_stray name moment session request report =
    turned (on_send_one session (kind_of report) (body_of report (text_in SYMBOL request.fields) name) moment)

-- what a message gets that asks for this, or is refused so
abbrev pub answer_to : List ℕ → ℤ → Machine → Request → Result Decoded Refusal → Work
answer_to name moment session request (Ok (Book symbol command)) = submits session symbol command
answer_to name moment session request (Ok (Stray report)) = answer_stray name moment session request report
answer_to name moment session request (Err (Reject reason tag)) =
    turned (on_reject session request.number request.kind tag reason moment)
answer_to name moment session request (Err Business) =
    turned
    (on_send_one session BusinessReject (business_body request.number (text_in MSG_TYPE request.fields)) moment)
answer_to name moment session request (Err NoMemory) = idle session

-- what a message of a member gets
unfoldable pub answer : Config → ℕ → ℤ → Machine → Request → Work
answer config member moment session request =
    answer_to (name_at config.members member) moment session request (order request member config moment)
