-- What a turn of a served member does to the floor, the link and his desk.
use Rattle.std.specs.Prelude.{◌≡◌, ◌<◌, ◌++◌, ◌⊎◌, ℕ, ℤ, List, [], Option, Some, None, Result, Ok, Err, length, take, slice_index}
use Rattle.venue_words.specs.declared.config.Config.{Config}
use Rattle.venue_words.specs.declared.report.Report.{Report}
use Rattle.venue_words.specs.Floors.{FloorMark, SymbolView, TurnsRose}
use Rattle.io_edge.specs.Links.{Answer, Told, Tells, WasPut}
use Rattle.io_edge.specs.Links.Answer.{piece, quiet, ended}
use Rattle.session_core.specs.declared.state.EndCause.{EndCause}
use Rattle.session_core.specs.Machine.{Machine, IsUp, given_up}
use Rattle.session_core.specs.State.{cause_of}
use Rattle.member_gate.specs.Answering.{Submission}
use Rattle.member_gate.specs.Desks.{DeskView}
use Rattle.member_gate.specs.Submitting.{IsNextAt, IsFullNext}
use Rattle.member_gate.specs.Working.{work_of_frames, GaveUp}
use Rattle.member_gate.specs.declared.refusal.DeskRefusal.{DeskRefusal}
use Rattle.line_work.specs.Commands.{at_moment, commands_for}
use Rattle.line_work.specs.FeedState.{Connection}
use Rattle.line_work.specs.LineWork.{reading_behind, work_of_bytes}
use Rattle.link_work.specs.declared.ends.LinkEnd.{LinkEnd}
use Rattle.link_work.specs.declared.ends.LinkEnd.TheVariants.{PeerEnd, InUse, Full, LinkFault, NoMemory}
use Rattle.link_work.specs.Ends.{end_of}
use Rattle.link_work.specs.Turns.{LinkTurn, joined}
use Rattle.serve_core.specs.Growing.{Grew}
use Rattle.serve_core.specs.Rounds.{Served, Serves, IsSent, IsRound, round_of, heard, work_in, sent_to, put_in, replies_in, reports_in, commands_in}

-- on every symbol the own calls grew by exactly these commands of a turn
abbrev pub GrewBy : {F : Type 0} → (F → ℕ → SymbolView) → ℕ → List (ℤ × Submission) → F → F → Type 0
GrewBy at feed commands floor floor' =
    (symbol : ℕ) → Grew feed (commands_for symbol commands) (at floor symbol) (at floor' symbol)

-- The turn was worked whole, and its input did not end the session. All was put: the replies, and then the reports of what the
-- floor shows then; each symbol was looked at where the session is up.
pub record TookTurn {F : Type 0} (at : F → ℕ → SymbolView) (config : Config) (feed : ℕ) (turn : LinkTurn) (before : Served) (desk : DeskView) (floor floor' : F) (link link' : Option Told) : Type 0 where
  pub on : cause_of (heard config turn before).connection.session.state.phase ≡ None
  pub after : Served
  pub round : IsRound config (round_of turn before (λ symbol. (at floor' symbol).reports) after)
  pub serves : Serves desk after
  pub grew : GrewBy at feed (commands_in config turn before) floor floor'
  pub put : Tells (WasPut (put_in config (round_of turn before (λ symbol. (at floor' symbol).reports) after))) link link'
  pub turns : IsUp (heard config turn before).connection.session → (symbol : ℕ) → symbol < length config.symbols
      → TurnsRose (at floor symbol).turns (at floor' symbol).turns

-- the input ended the session: its replies were put, and no report
pub record EndedTurn {F : Type 0} (at : F → ℕ → SymbolView) (config : Config) (feed : ℕ) (turn : LinkTurn) (before : Served) (end : LinkEnd) (desk : DeskView) (floor floor' : F) (link link' : Option Told) : Type 0 where
  pub cause : EndCause
  pub end_is : end ≡ end_of cause
  pub cause_is : cause_of (heard config turn before).connection.session.state.phase ≡ Some cause
  pub serves : Serves desk (heard config turn before)
  pub grew : GrewBy at feed (commands_in config turn before) floor floor'
  pub put : Tells (WasPut (replies_in config turn before)) link link'

-- a put of a reply failed: a prefix of the replies was put, and no report
pub record FailedReplies {F : Type 0} (at : F → ℕ → SymbolView) (config : Config) (feed : ℕ) (turn : LinkTurn) (before : Served) (desk : DeskView) (floor floor' : F) (link link' : Option Told) : Type 0 where
  pub serves : Serves desk (heard config turn before)
  pub grew : GrewBy at feed (commands_in config turn before) floor floor'
  pub size : ℕ
  pub put : Tells (WasPut (take size (replies_in config turn before))) link link'

-- a put of a report failed: all replies were put, and a prefix of the reports
pub record FailedReports {F : Type 0} (at : F → ℕ → SymbolView) (config : Config) (feed : ℕ) (turn : LinkTurn) (before : Served) (desk : DeskView) (floor floor' : F) (link link' : Option Told) : Type 0 where
  pub after : Served
  pub round : IsRound config (round_of turn before (λ symbol. (at floor' symbol).reports) after)
  pub serves : Serves desk after
  pub grew : GrewBy at feed (commands_in config turn before) floor floor'
  pub size : ℕ
  pub put : Tells (WasPut (replies_in config turn before ++ take size (reports_in config (round_of turn before (λ symbol. (at floor' symbol).reports) after)))) link link'

-- a full journal is that of the next command that is left, and holds its limit
abbrev pub IsFullAt : {F : Type 0} → (F → ℕ → SymbolView) → FloorMark → LinkEnd → List Submission → F → Type 0
IsFullAt at mark (Full symbol found) left floor =
    IsNextAt left symbol × (found ≡ length (at floor symbol).journal) × (found ≡ slice_index mark.setup.limits symbol)
IsFullAt at mark _ left floor = Unit {0}

-- of a piece some frames were worked, and made these commands; the session gave up over the next frame, or behind all
pub record GaveUpOver (config : Config) (moment : ℤ) (connection : Connection) (bytes : List ℕ) (taken : List Submission) (last : Machine) : Type 0 where
  pub worked : List (List ℕ)
  pub left : List (List ℕ)
  pub frames_are : (reading_behind connection.stream bytes).frames ≡ worked ++ left
  pub commands : taken ≡ (work_of_frames config connection.number moment connection.session worked).submissions
  pub gave_up : GaveUp moment (work_of_frames config connection.number moment connection.session worked).session left last

-- the session gave up over an input, which had made these commands; the clock makes none
abbrev pub GaveUpAt : Config → ℤ → Connection → Answer → List Submission → Machine → Type 0
GaveUpAt config moment connection (piece bytes) taken last = GaveUpOver config moment connection bytes taken last
GaveUpAt config moment connection quiet taken last = (taken ≡ []) × (last ≡ given_up connection.session)
GaveUpAt config moment connection ended taken last = ⊥

-- the desk whose session gave up over a turn's input: no cursor moved
pub record GaveUpDesk (config : Config) (turn : LinkTurn) (before : Served) (taken : List Submission) (desk : DeskView) : Type 0 where
  pub member : desk.member ≡ before.connection.number
  pub session : GaveUpAt config turn.moment before.connection turn.answer taken desk.session
  pub cursors : desk.cursors ≡ before.cursors

-- the desk behind a cut turn: its session gave up over the input; or all of that was worked, and only the reports were not read
abbrev pub CutDesk : Config → LinkTurn → Served → List Submission → List Submission → DeskView → Type 0
CutDesk config turn before taken left desk =
    GaveUpDesk config turn before taken desk ⊎ ((left ≡ []) × Serves desk (heard config turn before))

-- a command found a full journal, or memory was wanted: the first commands were submitted, and a prefix of the replies was put
pub record CutTurn {F : Type 0} (at : F → ℕ → SymbolView) (mark : FloorMark) (config : Config) (feed : ℕ) (turn : LinkTurn) (before : Served) (end : LinkEnd) (desk : DeskView) (floor floor' : F) (link link' : Option Told) : Type 0 where
  pub taken : List Submission
  pub left : List Submission
  pub parts : (work_in config turn before.connection).submissions ≡ taken ++ left
  pub grew : GrewBy at feed (at_moment turn.moment taken) floor floor'
  pub full : IsFullAt at mark end left floor'
  pub desk_is : CutDesk config turn before taken left desk
  pub size : ℕ
  pub put : Tells (WasPut (take size (replies_in config turn before))) link link'

-- how a turn ended the connection, by its end
abbrev pub StoppedTurn : {F : Type 0} → (F → ℕ → SymbolView) → FloorMark → Config → ℕ → LinkTurn → Served → LinkEnd → DeskView → F → F → Option Told → Option Told → Type 0
StoppedTurn at mark config feed turn before PeerEnd desk floor floor' link link' = ⊥
StoppedTurn at mark config feed turn before InUse desk floor floor' link link' = ⊥
StoppedTurn at mark config feed turn before LinkFault desk floor floor' link link' =
    FailedReplies at config feed turn before desk floor floor' link link'
    ⊎ FailedReports at config feed turn before desk floor floor' link link'
StoppedTurn at mark config feed turn before (Full symbol found) desk floor floor' link link' =
    CutTurn at mark config feed turn before (Full symbol found) desk floor floor' link link'
StoppedTurn at mark config feed turn before NoMemory desk floor floor' link link' =
    CutTurn at mark config feed turn before NoMemory desk floor floor' link link'
StoppedTurn at mark config feed turn before end desk floor floor' link link' =
    EndedTurn at config feed turn before end desk floor floor' link link'

-- ---- parts of a turn

-- a piece was refused: the floor took the first of its commands, and the session gave up
pub record RefusedPiece {F : Type 0} (at : F → ℕ → SymbolView) (mark : FloorMark) (config : Config) (feed : ℕ) (moment : ℤ) (connection : Connection) (bytes : List ℕ) (refusal : DeskRefusal) (last : Machine) (floor floor' : F) : Type 0 where
  pub taken : List Submission
  pub left : List Submission
  pub parts : (work_of_bytes config moment connection bytes).submissions ≡ taken ++ left
  pub grew : GrewBy at feed (at_moment moment taken) floor floor'
  pub full : IsFullNext at mark refusal left floor'
  pub session : GaveUpOver config moment connection bytes taken last

-- the reports were put
pub record PutReports (config : Config) (moment : ℤ) (looked : ℕ → List Report) (before : Served) (desk : DeskView) (link link' : Option Told) : Type 0 where
  pub after : Served
  pub sent : IsSent config moment looked before after
  pub serves : Serves desk after
  pub put : Tells (WasPut (joined (sent_to config moment before looked).turn.replies)) link link'

-- a prefix of them was put
pub record PutSome (config : Config) (moment : ℤ) (looked : ℕ → List Report) (before : Served) (desk : DeskView) (link link' : Option Told) : Type 0 where
  pub after : Served
  pub sent : IsSent config moment looked before after
  pub serves : Serves desk after
  pub size : ℕ
  pub put : Tells (WasPut (take size (joined (sent_to config moment before looked).turn.replies))) link link'

-- what became of the reports
abbrev pub ReportsWere : {T : Type 0} → Config → ℤ → (ℕ → List Report) → Served → DeskView → Option Told → Option Told → Result T LinkEnd → Type 0
ReportsWere config moment looked before desk link link' (Ok x) = PutReports config moment looked before desk link link'
ReportsWere config moment looked before desk link link' (Err LinkFault) = PutSome config moment looked before desk link link'
ReportsWere config moment looked before desk link link' (Err NoMemory) = Serves desk before × (link' ≡ link)
ReportsWere config moment looked before desk link link' (Err end) = ⊥

-- the session goes on, and replies, and the reports behind them, were put
pub record PutTurn (config : Config) (moment : ℤ) (replies : List (List ℕ)) (looked : ℕ → List Report) (mid : Served) (desk : DeskView) (link link' : Option Told) : Type 0 where
  pub on : cause_of mid.connection.session.state.phase ≡ None
  pub after : Served
  pub sent : IsSent config moment looked mid after
  pub serves : Serves desk after
  pub put : Tells (WasPut (joined replies ++ joined (sent_to config moment mid looked).turn.replies)) link link'

-- the replies, and a prefix of the reports
pub record PutPart (config : Config) (moment : ℤ) (replies : List (List ℕ)) (looked : ℕ → List Report) (mid : Served) (desk : DeskView) (link link' : Option Told) : Type 0 where
  pub after : Served
  pub sent : IsSent config moment looked mid after
  pub serves : Serves desk after
  pub size : ℕ
  pub put : Tells (WasPut (joined replies ++ take size (joined (sent_to config moment mid looked).turn.replies))) link link'

-- a prefix of the replies
pub record PutFew (replies : List (List ℕ)) (mid : Served) (desk : DeskView) (link link' : Option Told) : Type 0 where
  pub serves : Serves desk mid
  pub size : ℕ
  pub put : Tells (WasPut (take size (joined replies))) link link'

-- the replies, and the session has ended
pub record PutLast (replies : List (List ℕ)) (mid : Served) (desk : DeskView) (end : LinkEnd) (link link' : Option Told) : Type 0 where
  pub cause : EndCause
  pub end_is : end ≡ end_of cause
  pub cause_is : cause_of mid.connection.session.state.phase ≡ Some cause
  pub serves : Serves desk mid
  pub put : Tells (WasPut (joined replies)) link link'

-- what became of a turn whose input made these replies, and left the member served so
abbrev pub TurnWas : {T : Type 0} → Config → ℤ → List (List ℕ) → (ℕ → List Report) → Served → DeskView → Option Told → Option Told → Result T LinkEnd → Type 0
TurnWas config moment replies looked mid desk link link' (Ok x) = PutTurn config moment replies looked mid desk link link'
TurnWas config moment replies looked mid desk link link' (Err PeerEnd) = ⊥
TurnWas config moment replies looked mid desk link link' (Err InUse) = ⊥
TurnWas config moment replies looked mid desk link link' (Err (Full symbol found)) = ⊥
TurnWas config moment replies looked mid desk link link' (Err LinkFault) =
    PutFew replies mid desk link link' ⊎ PutPart config moment replies looked mid desk link link'
TurnWas config moment replies looked mid desk link link' (Err NoMemory) = Serves desk mid × Tells (WasPut (joined replies)) link link'
TurnWas config moment replies looked mid desk link link' (Err end) = PutLast replies mid desk end link link'
