-- What a drop session over a link does, turn by turn.
use Rattle.std.specs.Prelude.{◌≡◌, ◌⊎◌, ◌++◌, ℕ, ℤ, List, [], ◌∷◌, map}
use Rattle.std.specs.List.{All, flat_map}
use Rattle.venue_words.specs.declared.config.Config.{Config}
use Rattle.venue_words.specs.declared.report.Report.{Report}
use Rattle.io_edge.specs.Links.{Answer}
use Rattle.io_edge.specs.Links.Answer.{piece, quiet, ended}
use Rattle.session_core.specs.declared.message.Message.{Message}
use Rattle.fix_frames.specs.Reading.{reading_of}
use Rattle.session_core.specs.Machine.{Machine, Outcome, IsUp, IsOver, given_up, on_clock}
use Rattle.session_core.specs.Runs.{send_if_up}
use Rattle.session_stream.specs.Work.{Work, idle, turned}
use Rattle.link_work.specs.Turns.{LinkTurn, joined}
use Rattle.drop_copy.specs.Copies.{copies_at, copies_past}
use Rattle.drop_copy.specs.Desks.{DropView, AreUnread, GaveUpOver, work_of_piece}

-- ---- the input of a turn

-- what it makes of the session, and what is sent for it at once
abbrev pub work_at : ℤ → DropView → Answer → Work
work_at moment desk (piece bytes) = work_of_piece moment desk bytes
work_at moment desk quiet = turned (on_clock desk.session moment)
work_at moment desk ended = idle desk.session

abbrev pub work_in : LinkTurn → DropView → Work
work_in turn desk = work_at turn.moment desk turn.answer

-- the stream behind it: what was not worked is unread
abbrev pub StreamGoesOn : Answer → List ℕ → List ℕ → Type 0
StreamGoesOn (piece bytes) before after = AreUnread (before ++ bytes) after
StreamGoesOn quiet before after = after ≡ before
StreamGoesOn ended before after = after ≡ before

-- a desk behind the input of a turn, before any copy is sent
pub record HeardInput (turn : LinkTurn) (before after : DropView) : Type 0 where
  pub session : after.session ≡ (work_in turn before).session
  pub unread : IsOver after.session ⊎ StreamGoesOn turn.answer before.unread after.unread
  pub members : after.members ≡ before.members
  pub cursors : after.cursors ≡ before.cursors

-- the session gave up over it, for want of memory: over a frame of the piece, or over the clock
abbrev pub GaveUpAt : ℤ → DropView → Answer → Machine → Type 0
GaveUpAt moment desk (piece bytes) last = GaveUpOver moment desk.session (reading_of (desk.unread ++ bytes)).frames last
GaveUpAt moment desk quiet last = last ≡ given_up desk.session
GaveUpAt moment desk ended last = ⊥

abbrev pub GaveUpIn : LinkTurn → DropView → Machine → Type 0
GaveUpIn turn desk last = GaveUpAt turn.moment desk turn.answer last

-- ---- the copies behind the input

-- the session sends the copies between the cursors before and after, each framed with its next number
abbrev pub sent_to : Config → ℤ → (ℕ → List Report) → DropView → List ℕ → Outcome
sent_to config moment shown desk moved =
    send_if_up desk.session (copies_past config desk.members desk.cursors moved shown) moment

-- the desk behind its copies; where the session is not up, nothing is sent and no cursor moves
pub record SentCopies (config : Config) (moment : ℤ) (shown : ℕ → List Report) (before after : DropView) : Type 0 where
  pub session : after.session ≡ (sent_to config moment shown before after.cursors).machine
  pub unread : after.unread ≡ before.unread
  pub members : after.members ≡ before.members
  pub still : (IsUp before.session → ⊥) → after.cursors ≡ before.cursors

-- ---- a whole turn: the input, and then the copies of the reports that were shown of each symbol
pub record Round : Type 0 where
  pub turn : LinkTurn
  pub shown : ℕ → List Report
  pub before : DropView
  pub heard : DropView
  pub after : DropView

pub record IsRound (config : Config) (round : Round) : Type 0 where
  pub input : HeardInput round.turn round.before round.heard
  pub sent : SentCopies config round.turn.moment round.shown round.heard round.after

-- the bytes of the session's replies
abbrev pub replies_in : LinkTurn → DropView → List ℕ
replies_in turn desk = joined (work_in turn desk).replies

-- the bytes of the copies
abbrev pub copies_in : Config → ℤ → (ℕ → List Report) → DropView → List ℕ → List ℕ
copies_in config moment shown desk moved = joined (sent_to config moment shown desk moved).turn.replies

-- what a turn puts: the replies, and then the copies
abbrev pub put_in : Config → Round → List ℕ
put_in config round =
    replies_in round.turn round.before ++ copies_in config round.turn.moment round.shown round.heard round.after.cursors

-- what it copies of a symbol for the listed member at a place
abbrev pub copied_in : Config → ℕ → ℕ → Round → List Message
copied_in config symbol place round =
    copies_at config round.before.members round.before.cursors round.after.cursors round.shown symbol place

-- ---- turns one after the other

-- each begins where the one before it ended
abbrev pub Follow : DropView → List Round → DropView → Type 0
Follow start [] stop = stop ≡ start
Follow start (round ∷ rounds) stop = (round.before ≡ start) × Follow round.after rounds stop

pub record AreRounds (config : Config) (start : DropView) (rounds : List Round) (stop : DropView) : Type 0 where
  pub each : All (IsRound config) rounds
  pub follow : Follow start rounds stop

abbrev pub put_by : Config → List Round → List ℕ
put_by config rounds = flat_map (put_in config) rounds

abbrev pub turns_of : List Round → List LinkTurn
turns_of rounds = map (λ round. round.turn) rounds

-- what they copy of a symbol for the listed member at a place
abbrev pub copied_by : Config → ℕ → ℕ → List Round → List Message
copied_by config symbol place rounds = flat_map (copied_in config symbol place) rounds
