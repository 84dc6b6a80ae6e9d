-- A whole connection.
use Rattle.std.specs.Prelude.{◌≡◌, ◌⊎◌, ◌+◌, ℕ, ℤ, List, [], Option, Some, None, IfSome, length, option_map, slice_get, slice_set}
use Rattle.venue_words.specs.declared.config.Config.{Config}
use Rattle.venue_words.specs.Floors.{FloorMark, SymbolView}
use Rattle.io_edge.specs.Links.Answer.{piece}
use Rattle.session_core.specs.Machine.{IsUp, connected}
use Rattle.symbol_book.specs.Setting.{reports_at}
use Rattle.turn_gate.specs.Seats.{SeatState}
use Rattle.venue_core.specs.Shown.{shown_by_seat}
use Rattle.member_gate.specs.Desks.{DeskView, desk_at}
use Rattle.member_gate.specs.Reporting.{MovedOn}
use Rattle.link_work.specs.declared.ends.LinkEnd.{LinkEnd}
use Rattle.link_work.specs.declared.ends.LinkEnd.TheVariants.{InUse, NoMemory, PeerEnd}
use Rattle.link_work.specs.Turns.{LinkTurn}
use Rattle.serve_core.specs.Naming.{Edge, Named, Stranger}
use Rattle.serve_core.specs.Rounds.{Served}
use Rattle.serve_core.specs.Sessions.{Ground, Session, ground}
use Rattle.serve_core.specs.Turning.{StoppedTurn, TookTurn}

-- what a floor over a venue shows of a symbol, by its seats
abbrev pub seen_at : List SeatState → ℕ → SymbolView
seen_at seats symbol = shown_by_seat reports_at (slice_get seats symbol)

-- what a member is served at a new connection, by his desk
abbrev pub served_by : DeskView → Served
served_by desk = record {
  connection = record { number = desk.member; session = connected desk.session; stream = [] };
  cursors = desk.cursors;
}

-- the first turn of a session: its input is all bytes that had come when the member became known
abbrev pub first_turn : List ℕ → ℤ → LinkTurn
first_turn bytes moment = record { answer = piece bytes; moment = moment }

-- the session went on behind its first turn
pub record WentOn {F : Type 0} (at : F → ℕ → SymbolView) (mark : FloorMark) (config : Config) (feed : ℕ) (turn : LinkTurn) (start : Served) (end : LinkEnd) (desk : DeskView) (before after : Ground F) : Type 0 where
  pub between : DeskView
  pub middle : Ground F
  pub clock : middle.clock ≡ before.clock
  pub took : TookTurn at config feed turn start between before.floor middle.floor before.link middle.link
  pub session : Session at mark config feed took.after end desk middle after

-- a session from its first turn on
abbrev pub Visits : {F : Type 0} → (F → ℕ → SymbolView) → FloorMark → Config → ℕ → LinkTurn → Served → LinkEnd → DeskView → Ground F → Ground F → Type 0
Visits at mark config feed turn start end desk before after =
    ((after.clock ≡ before.clock)
    × StoppedTurn at mark config feed turn start end desk before.floor after.floor before.link after.link)
    ⊎ WentOn at mark config feed turn start end desk before after

-- the desks of all members, where they tell
abbrev pub ToldDesks : Type 0
ToldDesks = Option (List (Option DeskView))

abbrev pub edge_of : {F : Type 0} → Ground F → Edge
edge_of on = record { link = on.link; clock = on.clock }

-- the member was known, and his desk was not there: nothing was put or submitted
pub record Absent {F : Type 0} (config : Config) (end : LinkEnd) (before after : Ground F) (desks desks' : ToldDesks) : Type 0 where
  pub member : ℕ
  pub moment : ℤ
  pub bytes : List ℕ
  pub named : Named config member moment bytes (edge_of before) (edge_of after)
  pub floor : after.floor ≡ before.floor
  pub end_is : end ≡ InUse
  pub absent : IfSome desks (λ each. desk_at each member ≡ None)
  pub left : desks' ≡ option_map (λ each. slice_set each member None) desks

-- The member was known, and his desk was taken, served him and was given back; his feed is the one behind those of the members
-- before him. Where the peer ended while the session was up, each cursor has gone on to the end of its symbol's reports, or is
-- where it was if that is further on.
pub record Visited {F : Type 0} (at : F → ℕ → SymbolView) (mark : FloorMark) (config : Config) (end : LinkEnd) (before after : Ground F) (desks desks' : ToldDesks) : Type 0 where
  pub member : ℕ
  pub moment : ℤ
  pub bytes : List ℕ
  pub edge : Edge
  pub named : Named config member moment bytes (edge_of before) edge
  pub desk : DeskView
  pub stood : IfSome desks (λ each. desk_at each member ≡ Some desk)
  pub last : DeskView
  pub visits : Visits at mark config (member + 1) (first_turn bytes moment) (served_by desk) end last
      (ground before.floor edge.link edge.clock) after
  pub given : desks' ≡ option_map (λ each. slice_set each member (Some last)) desks
  pub caught : end ≡ PeerEnd → IsUp last.session
      → MovedOn (length config.symbols) (λ symbol. (at after.floor symbol).reports) desk.cursors last.cursors

-- nothing was asked, for want of memory
pub record NotBegun {F : Type 0} (end : LinkEnd) (before after : Ground F) : Type 0 where
  pub end_is : end ≡ NoMemory
  pub same : after ≡ before

-- a connection ended before its member was known, and the floor and the desks are as they were
pub record Unknown {F : Type 0} (config : Config) (end : LinkEnd) (before after : Ground F) (desks desks' : ToldDesks) : Type 0 where
  pub stranger : NotBegun end before after ⊎ Stranger config end (edge_of before) (edge_of after)
  pub floor : after.floor ≡ before.floor
  pub desks_are : desks' ≡ desks

-- how a connection ended, and all that it did
abbrev pub Connects : {F : Type 0} → (F → ℕ → SymbolView) → FloorMark → Config → LinkEnd → Ground F → Ground F → ToldDesks → ToldDesks → Type 0
Connects at mark config end before after desks desks' =
    Unknown config end before after desks desks'
    ⊎ (Absent config end before after desks desks' ⊎ Visited at mark config end before after desks desks')
