-- What a member's session over a link does, turn by turn.
use Rattle.std.specs.Prelude.{◌≡◌, ◌++◌, ℕ, ℤ, List, [], ◌∷◌, length, map}
use Rattle.std.specs.List.{All, flat_map}
use Rattle.venue_words.specs.declared.config.Config.{Config}
use Rattle.venue_words.specs.declared.report.Report.{Report}
use Rattle.io_edge.specs.Links.{Answer}
use Rattle.io_edge.specs.Links.Answer.{piece, quiet, ended}
use Rattle.session_core.specs.Machine.{Outcome, IsUp, on_clock}
use Rattle.session_core.specs.Runs.{send_if_up}
use Rattle.member_gate.specs.Answering.{Submission, Work, idle, turned}
use Rattle.member_gate.specs.Desks.{DeskView}
use Rattle.member_gate.specs.Reporting.{messages_past, MovedOn}
use Rattle.line_work.specs.Commands.{at_moment}
use Rattle.line_work.specs.FeedState.{Connection}
use Rattle.line_work.specs.LineWork.{fed, ticked, work_of_bytes}
use Rattle.line_work.specs.Standing.{IsDeskOf}
use Rattle.link_work.specs.Turns.{LinkTurn, joined}

-- a member's connection, and how many reports of each symbol he was sent or passed over
pub record Served : Type 0 where
  pub connection : Connection
  pub cursors : List ℕ

-- a desk is the one that serves him
pub record Serves (desk : DeskView) (served : Served) : Type 0 where
  pub desk_is : IsDeskOf desk served.connection
  pub cursors_are : desk.cursors ≡ served.cursors

-- ---- the input of a turn

-- what it makes of the session: its replies and its commands
abbrev pub work_at : Config → ℤ → Connection → Answer → Work
work_at config moment connection (piece bytes) = work_of_bytes config moment connection bytes
work_at config moment connection quiet = turned (on_clock connection.session moment)
work_at config moment connection ended = idle connection.session

abbrev pub work_in : Config → LinkTurn → Connection → Work
work_in config turn connection = work_at config turn.moment connection turn.answer

-- the connection behind it
abbrev pub heard_at : Config → ℤ → Connection → Answer → Connection
heard_at config moment connection (piece bytes) = fed config moment connection bytes
heard_at config moment connection quiet = ticked moment connection
heard_at config moment connection ended = connection

abbrev pub heard_in : Config → LinkTurn → Connection → Connection
heard_in config turn connection = heard_at config turn.moment connection turn.answer

-- what the member was served behind it, before any report is sent
abbrev pub heard : Config → LinkTurn → Served → Served
heard config turn served = record served { connection = heard_in config turn served.connection }

-- ---- the reports behind the input

-- the session sends the member's reports past the cursors, each framed with its next number
abbrev pub sent_to : Config → ℤ → Served → (ℕ → List Report) → Outcome
sent_to config moment served looked = send_if_up served.connection.session
    (messages_past config served.connection.number served.cursors looked) moment

-- the session stands behind its reports, and each cursor at the end of its symbol's reports, or where it was if that is further
-- on; where the session is not up nothing is sent and no cursor moves
pub record IsSent (config : Config) (moment : ℤ) (looked : ℕ → List Report) (before after : Served) : Type 0 where
  pub connection : after.connection ≡ record before.connection { session = (sent_to config moment before looked).machine }
  pub cursors : IsUp before.connection.session → MovedOn (length config.symbols) looked before.cursors after.cursors
  pub still : (IsUp before.connection.session → ⊥) → after.cursors ≡ before.cursors

-- ---- a whole turn: the input, and then the reports that were seen of each symbol
pub record Round : Type 0 where
  pub turn : LinkTurn
  pub looked : ℕ → List Report
  pub before : Served
  pub after : Served

abbrev pub round_of : LinkTurn → Served → (ℕ → List Report) → Served → Round
round_of turn before looked after = record { turn = turn; looked = looked; before = before; after = after }

abbrev pub IsRound : Config → Round → Type 0
IsRound config round = IsSent config round.turn.moment round.looked (heard config round.turn round.before) round.after

-- the bytes of the session's replies
abbrev pub replies_in : Config → LinkTurn → Served → List ℕ
replies_in config turn served = joined (work_in config turn served.connection).replies

-- the bytes of the reports
abbrev pub reports_in : Config → Round → List ℕ
reports_in config round = joined (sent_to config round.turn.moment (heard config round.turn round.before) round.looked).turn.replies

-- what it puts: the replies, and then the reports
abbrev pub put_in : Config → Round → List ℕ
put_in config round = replies_in config round.turn round.before ++ reports_in config round

-- the commands that its input makes, each with its moment
abbrev pub commands_in : Config → LinkTurn → Served → List (ℤ × Submission)
commands_in config turn served = at_moment turn.moment (work_in config turn served.connection).submissions

-- ---- turns one after the other

-- each begins where the one before it ended
abbrev pub Follow : Served → List Round → Served → Type 0
Follow start [] stop = stop ≡ start
Follow start (round ∷ rounds) stop = (round.before ≡ start) × Follow round.after rounds stop

pub record AreRounds (config : Config) (start : Served) (rounds : List Round) (stop : Served) : Type 0 where
  pub each : All (IsRound config) rounds
  pub follow : Follow start rounds stop

abbrev pub put_by : Config → List Round → List ℕ
put_by config rounds = flat_map (put_in config) rounds

abbrev pub commands_by : Config → List Round → List (ℤ × Submission)
commands_by config rounds = flat_map (λ round. commands_in config round.turn round.before) rounds

abbrev pub turns_of : List Round → List LinkTurn
turns_of rounds = map (λ round. round.turn) rounds
