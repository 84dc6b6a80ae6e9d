-- What a session does with one message that was to come.
use Rattle.std.specs.Prelude.{◌≡◌, ℕ, ◌+◌, ◌<◌, ◌≤◌, ◌==◌, true, false, ◌||◌, nat_lt, if◌then◌else◌, List, [], ◌∷◌, ◌++◌, length, Option, Some, None, Ok, ◌⊎◌, ℤ}
use Rattle.std.specs.List.{AllByRecursion}
use Rattle.venue_words.specs.Limits.{venue}
use Rattle.fix_fields.specs.declared.field.Field.{Field}
use Rattle.fix_fields.specs.Fields.{split}
use Rattle.fix_write.specs.declared.message_type.MessageType.TheVariants.{ResendRequest, Reject}
use Rattle.fix_write.specs.declared.tags.TheConstants.{MSG_TYPE, SENDER_COMP_ID, TARGET_COMP_ID}
use Rattle.fix_write.specs.Framing.{frame_of}
use Rattle.fix_write.specs.MessageTypes.{byte_of, is_order}
use Rattle.session_core.specs.declared.checks.FailedCheck.{FailedCheck}
use Rattle.session_core.specs.declared.message.Kept.{Kept}
use Rattle.session_core.specs.declared.tags.TheConstants.{BEGIN_SEQ_NO, END_SEQ_NO}
use Rattle.session_core.specs.Bodies.{reject}
use Rattle.fix_fields.specs.Content.{content_of}
use Rattle.session_core.specs.Frames.{new_frame}
use Rattle.session_core.specs.Lookup.{message_number, kind_of, is_value, number_or_zero, text_in}
use Rattle.session_core.specs.Sequence.{in_reset_mode}
use Rattle.session_core.specs.Tables.{failed_of}
use Rattle.session_core.specs.Machine.{Machine, Outcome, IsUp, on_frame}
use Rattle.message_laws.specs.Ledgers.{Entry, Covers}

-- a frame of these fields brings a session that is up the message that was to come, from its member to the venue; it is no
-- SequenceReset that sets the number
pub record IsInTurn (machine : Machine) (frame : List ℕ) (fields : List Field) : Type 0 where
  pub up : IsUp machine
  pub content : split (content_of frame) ≡ Ok fields
  pub number : message_number fields ≡ Some machine.state.next_in
  pub sender : is_value SENDER_COMP_ID machine.member fields ≡ true
  pub target : is_value TARGET_COMP_ID venue fields ≡ true
  pub ordinary : in_reset_mode (kind_of fields) fields ≡ false

-- a session behind a message that it rejects: one number more is expected, the clocks are set, and its Reject is sent under the
-- next number; nothing is handed out, and nothing else changes
abbrev pub rejected : Machine → List Field → ℤ → FailedCheck → Outcome
rejected machine fields moment failed =
    record {
      machine =
          record {
            member = machine.member;
            state =
                record machine.state {
                  next_in = machine.state.next_in + 1;
                  received = moment;
                  sent_at = moment;
                  test_out = false;
                };
            sent = machine.sent ++ None ∷ [];
          };
      turn =
          record {
            replies =
                new_frame machine.member moment (length machine.sent + 1)
                (reject machine.state.next_in failed.tag (text_in MSG_TYPE fields) failed.reason)
                ∷ [];
            request = None;
            ended = None;
          };
    }

-- a frame that is sent again, or a new one that is no Reject (35=3)
pub record IsNoReject (member frame : List ℕ) : Type 0 where
  pub kind : ℕ
  pub number : ℕ
  pub moment : ℤ
  pub first : Option ℤ
  pub body : List ℕ
  pub frame_is : frame ≡ frame_of kind venue member number moment first body
  pub other : first ≡ None → kind ≡ byte_of Reject → ⊥

-- a message that fails a check, and is no order, is rejected; and whatever the message, where a Reject is sent, the session is
-- behind it as it is behind a message that it rejects
pub record RejectIsAlone : Type 0 where
  pub failed :
      (machine : Machine) (frame : List ℕ) (moment : ℤ) (fields : List Field) (failed : FailedCheck) →
      IsInTurn machine frame fields → is_order (kind_of fields) ≡ false → failed_of (kind_of fields) fields ≡ Some failed →
      on_frame machine frame moment ≡ rejected machine fields moment failed
  pub every :
      (machine : Machine) (frame : List ℕ) (moment : ℤ) (fields : List Field) → IsInTurn machine frame fields →
      ((failed : FailedCheck) × (on_frame machine frame moment ≡ rejected machine fields moment failed))
      ⊎ AllByRecursion (IsNoReject machine.member) (on_frame machine frame moment).turn.replies

-- a session behind an order that it hands out: one number more is expected and the clock is set; nothing is sent
abbrev pub handed_out : Machine → List Field → ℤ → Outcome
handed_out machine fields moment =
    record {
      machine =
          record {
            member = machine.member;
            state =
                record machine.state { next_in = machine.state.next_in + 1; received = moment; test_out = false };
            sent = machine.sent;
          };
      turn =
          record {
            replies = [];
            request =
                Some (record {
                  number = machine.state.next_in;
                  kind = kind_of fields;
                  fields = fields;
                });
            ended = None;
          };
    }

-- an order that was to come is handed out with all its fields
abbrev pub OrderIsHandedOut : Type 0
OrderIsHandedOut =
    (machine : Machine) (frame : List ℕ) (moment : ℤ) (fields : List Field) →
    IsInTurn machine frame fields → is_order (kind_of fields) ≡ true →
    on_frame machine frame moment ≡ handed_out machine fields moment

-- what a session remembers of the messages that it sent, from a number on: the frames of application messages
abbrev pub remembered : List ℕ → ℕ → List (Option Kept) → List Entry
remembered member number [] = []
remembered member number (Some kept ∷ sent) =
    record { application = true; frame = new_frame member kept.moment number kept.message } ∷ remembered member (number + 1) sent
remembered member number (None ∷ sent) = record { application = false; frame = [] } ∷ remembered member (number + 1) sent

-- the last number of a range: 0, and what is above the last number sent, stand for that one
abbrev pub last_asked : ℕ → ℕ → ℕ
last_asked last sent = if (last == 0) || nat_lt sent last then sent else last

-- a ResendRequest for numbers that were sent is answered by frames that cover these and no others
abbrev pub RangeIsAsked : Type 0
RangeIsAsked =
    (machine : Machine) (frame : List ℕ) (moment : ℤ) (fields : List Field) →
    IsInTurn machine frame fields → kind_of fields ≡ ResendRequest → failed_of ResendRequest fields ≡ None →
    0 < number_or_zero BEGIN_SEQ_NO fields → number_or_zero BEGIN_SEQ_NO fields ≤ length machine.sent →
    (number_or_zero END_SEQ_NO fields ≡ 0) ⊎ (number_or_zero BEGIN_SEQ_NO fields ≤ number_or_zero END_SEQ_NO fields) →
    Covers machine.member moment (remembered machine.member 1 machine.sent) (number_or_zero BEGIN_SEQ_NO fields)
    (last_asked (number_or_zero END_SEQ_NO fields) (length machine.sent) + 1) (on_frame machine frame moment).turn.replies
