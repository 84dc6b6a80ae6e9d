-- What the recorded bytes of a market data session say: the lines of its feed, and how it ended.
use Rattle.std.specs.Prelude.{ℕ, ℤ, List, Option, Ok, Err}
use Rattle.venue_words.specs.declared.config.Config.{Config}
use Rattle.fix_frames.specs.Reading.{reading_of}
use Rattle.fix_write.specs.declared.message_type.MessageType.{MessageType}
use Rattle.fix_write.specs.declared.message_type.MessageType.TheVariants.{BusinessReject, MarketDataSnapshot}
use Rattle.fix_write.specs.declared.tags.TheConstants.{MSG_TYPE}
use Rattle.member_gate.specs.Answering.{business_body}
use Rattle.session_core.specs.declared.message.Request.{Request}
use Rattle.session_core.specs.declared.state.EndCause.{EndCause}
use Rattle.session_core.specs.Lookup.{text_in}
use Rattle.session_core.specs.Machine.{Machine, Outcome, fresh, rests, on_send_one, on_reject}
use Rattle.session_core.specs.State.{cause_of}
use Rattle.session_stream.specs.Work.{Work, work_of_reading}
use Rattle.market_data.specs.Lines.{all_quotes, feed_lines}
use Rattle.market_data.specs.Snapshots.{Meant, snapshot_of}

-- a snapshot that is taken has no answer, and one that is refused a Reject
abbrev pub answer_snapshot : ℤ → Machine → Request → Meant → Outcome
answer_snapshot moment session request (Ok snapshot) = rests session
answer_snapshot moment session request (Err failed) =
    on_reject session request.number request.kind failed.tag failed.reason moment

-- by its type: a message that is no snapshot is answered by a BusinessMessageReject
abbrev pub answer_by_type : MessageType → Config → Machine → Request → Outcome
answer_by_type MarketDataSnapshot config session request =
    answer_snapshot config.begin session request (snapshot_of request.fields config)
answer_by_type _ config session request =
    on_send_one session BusinessReject (business_body request.number (text_in MSG_TYPE request.fields)) config.begin

-- what the session answers to a message
unfoldable pub market_answer : Config → Machine → Request → Outcome
market_answer config session request = answer_by_type request.kind config session request

-- the lines of a feed, and why the session ended, where it did
pub record Market : Type 0 where
  pub lines : List ℕ
  pub cause : Option EndCause

-- what a session's work says
abbrev pub market_by : Config → Work → Market
market_by config work =
    record {
      lines = feed_lines config (all_quotes config work.requests);
      cause = cause_of work.session.state.phase;
    }

-- what the bytes that a source sent say, in a session with it at the moment at which the config begins
unfoldable pub market_of : Config → List ℕ → List ℕ → Market
market_of config source bytes =
    market_by config (work_of_reading (market_answer config) config.begin (fresh source) (reading_of bytes))
