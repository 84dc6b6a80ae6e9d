-- A drop session over a link: whole turns, one after the other, and then its end.
use Rattle.std.specs.Prelude.{◌≡◌, ◌≢◌, ◌≤◌, ◌<◌, ◌+◌, ◌⊎◌, ◌++◌, ◌∷◌, [], max, ℕ, ℤ, List, Option, Some, None, filter, take, length, slice_index}
use Rattle.venue_words.specs.declared.command.Event.{Event}
use Rattle.venue_words.specs.declared.config.Config.{Config}
use Rattle.venue_words.specs.declared.report.Report.{Report}
use Rattle.venue_words.specs.Floors.{SymbolView, TurnsRose}
use Rattle.io_edge.specs.Links.{Told, Tells, WasPut}
use Rattle.io_edge.specs.Links.Answer.{ended}
use Rattle.session_core.specs.declared.state.EndCause.{EndCause}
use Rattle.session_core.specs.Machine.{IsUp}
use Rattle.session_core.specs.State.{cause_of, is_up}
use Rattle.member_gate.specs.Answering.{name_at}
use Rattle.member_gate.specs.Submitting.{Waited}
use Rattle.link_work.specs.declared.ends.LinkEnd.{LinkEnd}
use Rattle.link_work.specs.declared.ends.LinkEnd.TheVariants.{PeerEnd, InUse, Full, LinkFault, NoMemory}
use Rattle.link_work.specs.Ends.{end_of}
use Rattle.link_work.specs.Turns.{LinkTurn, TurnsWere}
use Rattle.drop_copy.specs.Copies.{copies, cursor_of}
use Rattle.drop_copy.specs.Desks.{DropView}
use Rattle.drop_copy.specs.Looks.{AllWentOn, WentOn}
use Rattle.drop_copy.specs.Rounds.{Round, IsRound, AreRounds, GaveUpIn, HeardInput, work_in, replies_in, copies_in, put_in, put_by, turns_of, copied_by}

-- what a floor shows of each symbol
abbrev pub reports_at : {F : Type 0} → (F → ℕ → SymbolView) → F → ℕ → List Report
reports_at at floor symbol = (at floor symbol).reports

-- no own call was added at any symbol, and nothing that was seen is taken back
abbrev pub AllWaited : {F : Type 0} → (F → ℕ → SymbolView) → F → F → Type 0
AllWaited at before after = (symbol : ℕ) → Waited (at before symbol) (at after symbol)

-- the ends of a drop session: it has one connection and submits nothing, so no other uses it and no journal is found full
abbrev pub IsDropEnd : LinkEnd → Type 0
IsDropEnd end = (end ≢ InUse) × ((symbol found : ℕ) → end ≢ Full symbol found)

-- ---- one turn

-- The turn was worked whole, and all was put: the replies, and then the copies. Where the session is up behind the input, each
-- symbol was looked at for each listed member.
pub record TookTurn {F : Type 0} (at : F → ℕ → SymbolView) (made : ℕ → List Event → List Report) (config : Config) (turn : LinkTurn) (before after : DropView) (floor floor' : F) (link link' : Option Told) : Type 0 where
  pub heard : DropView
  pub round : IsRound config (record { turn = turn; shown = reports_at at floor'; before = before; heard = heard; after = after })
  pub went_on : IsUp heard.session → AllWentOn at made (length config.symbols) before.members before.cursors after.cursors floor floor'
  pub waited : AllWaited at floor floor'
  pub turns : IsUp heard.session → 0 < length before.members → (symbol : ℕ) → symbol < length config.symbols
      → TurnsRose (at floor symbol).turns (at floor' symbol).turns
  pub put : Tells (WasPut (put_in config (record { turn = turn; shown = reports_at at floor'; before = before; heard = heard; after = after }))) link link'

-- the input ended the session by a cause: its replies were put, and no copy
pub record EndedTurn {F : Type 0} (turn : LinkTurn) (before : DropView) (end : LinkEnd) (after : DropView) (floor floor' : F) (link link' : Option Told) : Type 0 where
  pub cause : EndCause
  pub end_is : end ≡ end_of cause
  pub cause_is : cause_of after.session.state.phase ≡ Some cause
  pub input : HeardInput turn before after
  pub floor_is : floor' ≡ floor
  pub put : Tells (WasPut (replies_in turn before)) link link'

-- the peer gave no more, and nothing was done
pub record PeerEnded {F : Type 0} (turn : LinkTurn) (before : DropView) (end : LinkEnd) (after : DropView) (floor floor' : F) (link link' : Option Told) : Type 0 where
  pub end_is : end ≡ PeerEnd
  pub answer : turn.answer ≡ ended
  pub desk_is : after ≡ before
  pub floor_is : floor' ≡ floor
  pub link_is : link' ≡ link

-- a put of a reply failed: a prefix of the replies was put, and no copy
pub record FailedReplies {F : Type 0} (turn : LinkTurn) (before : DropView) (end : LinkEnd) (after : DropView) (floor floor' : F) (link link' : Option Told) : Type 0 where
  pub end_is : end ≡ LinkFault
  pub input : HeardInput turn before after
  pub floor_is : floor' ≡ floor
  pub size : ℕ
  pub put : Tells (WasPut (take size (replies_in turn before))) link link'

-- a put of a copy failed: all replies were put, and a prefix of the copies
pub record FailedCopies {F : Type 0} (at : F → ℕ → SymbolView) (made : ℕ → List Event → List Report) (config : Config) (turn : LinkTurn) (before : DropView) (end : LinkEnd) (after : DropView) (floor floor' : F) (link link' : Option Told) : Type 0 where
  pub end_is : end ≡ LinkFault
  pub heard : DropView
  pub round : IsRound config (record { turn = turn; shown = reports_at at floor'; before = before; heard = heard; after = after })
  pub went_on : IsUp heard.session → AllWentOn at made (length config.symbols) before.members before.cursors after.cursors floor floor'
  pub waited : AllWaited at floor floor'
  pub size : ℕ
  pub put : Tells (WasPut (replies_in turn before
      ++ take size (copies_in config turn.moment (reports_at at floor') heard after.cursors))) link link'

-- memory was wanted: a prefix of the replies was put, and no copy. The session gave up over the input; or that was worked whole, and
-- only its copies were not framed
pub record CutTurn {F : Type 0} (at : F → ℕ → SymbolView) (turn : LinkTurn) (before : DropView) (end : LinkEnd) (after : DropView) (floor floor' : F) (link link' : Option Told) : Type 0 where
  pub end_is : end ≡ NoMemory
  pub session : GaveUpIn turn before after.session ⊎ (after.session ≡ (work_in turn before).session)
  pub members : after.members ≡ before.members
  pub cursors : after.cursors ≡ before.cursors
  pub waited : AllWaited at floor floor'
  pub size : ℕ
  pub put : Tells (WasPut (take size (replies_in turn before))) link link'

-- how a turn ended the connection
abbrev pub StoppedTurn : {F : Type 0} → (F → ℕ → SymbolView) → (ℕ → List Event → List Report) → Config → LinkTurn → DropView → LinkEnd → DropView → F → F → Option Told → Option Told → Type 0
StoppedTurn at made config turn before end after floor floor' link link' =
    PeerEnded turn before end after floor floor' link link'
    ⊎ (EndedTurn turn before end after floor floor' link link'
    ⊎ (FailedReplies turn before end after floor floor' link link'
    ⊎ (FailedCopies at made config turn before end after floor floor' link link'
    ⊎ CutTurn at turn before end after floor floor' link link')))

-- ---- a connection

-- what a session stands on: the floor, and what the link and the clock tell
pub record Ground (F : Type 0) : Type 0 where
  pub floor : F
  pub link : Option Told
  pub clock : Option (List ℤ)

abbrev pub ground : {F : Type 0} → F → Option Told → Option (List ℤ) → Ground F
ground floor link clock = record { floor = floor; link = link; clock = clock }

-- a cursor stands where it stood, or it went on
abbrev pub StoodOrWentOn : (List Event → List Report) → SymbolView → SymbolView → ℕ → ℕ → Type 0
StoodOrWentOn made before after cursor moved = (moved ≡ cursor) ⊎ WentOn made before after cursor moved

-- what became of the cursors of a connection: each stands where it stood or went on; where the session is up each went on, that
-- of the last listed member to the end of all reports that are shown
pub record CursorsMoved {F : Type 0} (at : F → ℕ → SymbolView) (made : ℕ → List Event → List Report) (symbols : ℕ) (start stop : DropView) (before after : F) : Type 0 where
  pub each : (symbol place : ℕ) → symbol < symbols → place < length start.members
      → StoodOrWentOn (made symbol) (at before symbol) (at after symbol)
      (cursor_of start.members start.cursors symbol place) (cursor_of start.members stop.cursors symbol place)
  pub up : IsUp stop.session → (symbol place : ℕ) → symbol < symbols → place < length start.members
      → WentOn (made symbol) (at before symbol) (at after symbol)
      (cursor_of start.members start.cursors symbol place) (cursor_of start.members stop.cursors symbol place)
  pub last : IsUp stop.session → (symbol place : ℕ) → symbol < symbols → place + 1 ≡ length start.members
      → cursor_of start.members stop.cursors symbol place
      ≡ max (cursor_of start.members start.cursors symbol place) (length (at after symbol).reports)

-- for each symbol and listed member, what was copied are the copies between the cursors at first and at last
abbrev pub CopiedBetween : {F : Type 0} → (F → ℕ → SymbolView) → Config → DropView → List Round → DropView → F → Type 0
CopiedBetween at config start rounds stop after =
    (symbol place : ℕ) → symbol < length config.symbols → place < length start.members
    → copied_by config symbol place rounds ≡ copies config (name_at config.symbols symbol) (slice_index start.members place)
    (cursor_of start.members start.cursors symbol place) (cursor_of start.members stop.cursors symbol place) (at after symbol).reports

-- a told number of turns rose by at least so many; it is told on as it was before
abbrev pub RoseBy : ℕ → Option ℕ → Option ℕ → Type 0
RoseBy count (Some before) after = (now : ℕ) × (after ≡ Some now) × (before + count ≤ now)
RoseBy count None after = after ≡ None

-- how many of these turns left the session up behind their input
abbrev pub turns_up : List Round → ℕ
turns_up rounds = length (filter (λ round. is_up round.heard.session.state) rounds)

-- where a member is listed, each symbol was looked at in each of these turns
abbrev pub AllRose : {F : Type 0} → (F → ℕ → SymbolView) → ℕ → DropView → List Round → F → F → Type 0
AllRose at symbols start rounds before after =
    0 < length start.members → (symbol : ℕ) → symbol < symbols
    → RoseBy (turns_up rounds) (at before symbol).turns (at after symbol).turns

-- whole turns so far: what was put is for each turn its replies and then its copies
pub record SoFar {F : Type 0} (at : F → ℕ → SymbolView) (made : ℕ → List Event → List Report) (config : Config) (start stop : DropView) (before after : Ground F) : Type 0 where
  pub rounds : List Round
  pub are : AreRounds config start rounds stop
  pub told : TurnsWere (turns_of rounds) (put_by config rounds) before.link before.clock after.link after.clock
  pub waited : AllWaited at before.floor after.floor
  pub members : stop.members ≡ start.members
  pub moved : CursorsMoved at made (length config.symbols) start stop before.floor after.floor
  pub copied : CopiedBetween at config start rounds stop after.floor
  pub turns : AllRose at (length config.symbols) start rounds before.floor after.floor

-- the last turn
pub record LastTurn {F : Type 0} (at : F → ℕ → SymbolView) (made : ℕ → List Event → List Report) (config : Config) (desk : DropView) (end : LinkEnd) (last : DropView) (before after : Ground F) : Type 0 where
  pub turn : LinkTurn
  pub asked : Option Told
  pub told : TurnsWere (turn ∷ []) [] before.link before.clock asked after.clock
  pub stopped : StoppedTurn at made config turn desk end last before.floor after.floor asked after.link

-- nothing was done behind the whole turns: a pull failed, or memory was wanted before the first turn
pub record Rested {F : Type 0} (desk : DropView) (end : LinkEnd) (last : DropView) (before after : Ground F) : Type 0 where
  pub end_is : (end ≡ LinkFault) ⊎ (end ≡ NoMemory)
  pub desk_is : last ≡ desk
  pub ground_is : after ≡ before

-- a whole connection: turns that were worked whole, and then its end
pub record Connection {F : Type 0} (at : F → ℕ → SymbolView) (made : ℕ → List Event → List Report) (config : Config) (start : DropView) (end : LinkEnd) (last : DropView) (before after : Ground F) : Type 0 where
  pub stop : DropView
  pub middle : Ground F
  pub so_far : SoFar at made config start stop before middle
  pub ends : Rested stop end last middle after ⊎ LastTurn at made config stop end last middle after
