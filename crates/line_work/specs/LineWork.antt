-- What a line does: the state of its feed behind it, the replies that go out, and the commands for books.
use Rattle.std.specs.Prelude.{ℕ, ℤ, List, [], ◌∷◌, ◌++◌, length, drop, map, Result, Ok, Err}
use Rattle.std.specs.List.{flat_map}
use Rattle.venue_words.specs.declared.command.Command.{Command}
use Rattle.venue_words.specs.declared.config.Config.{Config}
use Rattle.fix_frames.specs.declared.reading.Reading.{Reading}
use Rattle.fix_frames.specs.Reading.{reading_of}
use Rattle.session_core.specs.Machine.{connected, on_clock}
use Rattle.member_gate.specs.Answering.{Submission, Work, name_at}
use Rattle.member_gate.specs.Working.{work_of_reading}
use Rattle.script_text.specs.declared.body.Line.{Line}
use Rattle.script_text.specs.declared.body.Line.TheVariants.{Moment, Quote, Piece, Open}
use Rattle.script_text.specs.declared.fault.LineFault.{LineFault}
use Rattle.script_text.specs.Body.{read_of}
use Rattle.line_work.specs.FeedState.{FeedState, Connection, connection_at, with_connection}
use Rattle.line_work.specs.Output.{frame_lines}

-- the feed's state behind a line, the lines of output of the replies, and the commands for books
pub record LineWork : Type 0 where
  pub state : FeedState
  pub text : List ℕ
  pub submissions : List Submission

-- ---- T: the clock says a moment to each member

abbrev pub ticked : ℤ → Connection → Connection
ticked moment connection = record connection { session = (on_clock connection.session moment).machine }

abbrev pub tick_lines : Config → ℤ → Connection → List ℕ
tick_lines config moment connection =
    frame_lines (name_at config.members connection.number) (on_clock connection.session moment).turn.replies

abbrev pub work_of_moment : FeedState → ℤ → LineWork
work_of_moment state moment =
    record {
      state = record state { moment = moment; connections = map (ticked moment) state.connections };
      text = flat_map (tick_lines state.config moment) state.connections;
      submissions = [];
    }

-- ---- M and B: bytes come on a member's stream

-- what a piece adds to the frames of a stream
unfoldable pub reading_behind : List ℕ → List ℕ → Reading
reading_behind stream piece =
    record {
      frames = drop (length (reading_of stream).frames) (reading_of (stream ++ piece)).frames;
      too_long = (reading_of (stream ++ piece)).too_long;
    }

-- what the frames that a piece completes make of a member's session
abbrev pub work_of_bytes : Config → ℤ → Connection → List ℕ → Work
work_of_bytes config moment connection piece =
    work_of_reading config connection.number moment connection.session (reading_behind connection.stream piece)

-- a connection behind a piece
abbrev pub fed : Config → ℤ → Connection → List ℕ → Connection
fed config moment connection piece =
    record connection {
      session = (work_of_bytes config moment connection piece).session;
      stream = connection.stream ++ piece;
    }

abbrev pub piece_lines : Config → ℤ → Connection → List ℕ → List ℕ
piece_lines config moment connection piece =
    frame_lines (name_at config.members connection.number) (work_of_bytes config moment connection piece).replies

abbrev pub work_of_piece : FeedState → ℕ → List ℕ → LineWork
work_of_piece state number piece =
    let connection = connection_at state number in
    record {
      state = with_connection state number (fed state.config state.moment connection piece);
      text = piece_lines state.config state.moment connection piece;
      submissions = (work_of_bytes state.config state.moment connection piece).submissions;
    }

-- ---- Q and O

-- nothing goes out
abbrev pub quiet_line : FeedState → List Submission → LineWork
quiet_line state submissions = record { state = state; text = []; submissions = submissions }

-- a new connection of a member, with an empty stream
abbrev pub reconnected : Connection → Connection
reconnected connection = record connection { session = connected connection.session; stream = [] }

abbrev pub work_of_open : FeedState → ℕ → LineWork
work_of_open state number =
    quiet_line (with_connection state number (reconnected (connection_at state number))) []

abbrev pub work_of_quote : FeedState → ℕ → Command → LineWork
work_of_quote state symbol command = quiet_line state (record { symbol = symbol; command = command } ∷ [])

-- ---- any line

abbrev pub work_of_line : FeedState → Line → LineWork
work_of_line state (Moment moment) = work_of_moment state moment
work_of_line state (Quote symbol command) = work_of_quote state symbol command
work_of_line state (Piece number bytes) = work_of_piece state number bytes
work_of_line state (Open number) = work_of_open state number

abbrev pub work_of_read : FeedState → Result Line LineFault → Result LineWork LineFault
work_of_read state (Ok line) = Ok (work_of_line state line)
work_of_read state (Err fault) = Err fault

-- what the text of a line does, without its LF, or why it is refused as line 1
unfoldable pub work_of_text : FeedState → List ℕ → Result LineWork LineFault
work_of_text state text = work_of_read state (read_of state.config text)
