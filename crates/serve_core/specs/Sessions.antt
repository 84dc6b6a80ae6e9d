-- A member's session over a link: whole turns, one after the other, and then its end.
use Rattle.std.specs.Prelude.{◌≡◌, ◌⊎◌, ◌+◌, ◌≤◌, ◌<◌, ◌∷◌, [], ℕ, ℤ, Bool, List, Option, Some, None, length, count_by}
use Rattle.std.specs.List.{All}
use Rattle.venue_words.specs.declared.config.Config.{Config}
use Rattle.venue_words.specs.Floors.{FloorMark, SymbolView}
use Rattle.venue_words.specs.Journals.{StartsWith}
use Rattle.io_edge.specs.Links.{Told}
use Rattle.io_edge.specs.Links.Answer.{ended}
use Rattle.session_core.specs.State.{is_up}
use Rattle.member_gate.specs.Desks.{DeskView}
use Rattle.link_work.specs.declared.ends.LinkEnd.{LinkEnd}
use Rattle.link_work.specs.declared.ends.LinkEnd.TheVariants.{PeerEnd, LinkFault}
use Rattle.link_work.specs.Turns.{LinkTurn, TurnsWere}
use Rattle.serve_core.specs.Catching.{HasCaught}
use Rattle.serve_core.specs.Rounds.{Served, Serves, Round, AreRounds, heard, put_by, commands_by, turns_of}
use Rattle.serve_core.specs.Turning.{GrewBy, StoppedTurn}

-- what a session stands on: the floor, and what the link and the clock tell
pub record Ground (F : Type 0) : Type 0 where
  pub floor : F
  pub link : Option Told
  pub clock : Option (List ℤ)

abbrev pub ground : {F : Type 0} → F → Option Told → Option (List ℤ) → Ground F
ground floor link clock = record { floor = floor; link = link; clock = clock }

-- the session is up behind the turn's input, so every symbol was looked at
abbrev pub looks : Config → Round → Bool
looks config round = is_up (heard config round.turn round.before).connection.session.state

-- a told number of turns rose by so many at least; it is told on as it was before
abbrev pub RoseBy : ℕ → Option ℕ → Option ℕ → Type 0
RoseBy count (Some before) after = (now : ℕ) × (after ≡ Some now) × (before + count ≤ now)
RoseBy count None after = after ≡ None

-- whole turns so far, from what the member was served at first: what was put is for each turn its replies and then its reports,
-- and the own calls grew by exactly the commands of the turns. The reports that were seen at a turn still stand first, and each
-- symbol had a turn at its gate for each turn at which the session was up.
pub record SoFar {F : Type 0} (at : F → ℕ → SymbolView) (config : Config) (feed : ℕ) (start : Served) (desk : DeskView) (before after : Ground F) : Type 0 where
  pub rounds : List Round
  pub stop : Served
  pub are : AreRounds config start rounds stop
  pub serves : Serves desk stop
  pub told : TurnsWere (turns_of rounds) (put_by config rounds) before.link before.clock after.link after.clock
  pub grew : GrewBy at feed (commands_by config rounds) before.floor after.floor
  pub seen : All (λ round. (symbol : ℕ) → StartsWith (at after.floor symbol).reports (round.looked symbol)) rounds
  pub turns : (symbol : ℕ) → symbol < length config.symbols
      → RoseBy (count_by (looks config) rounds) (at before.floor symbol).turns (at after.floor symbol).turns
  pub caught : (entry : List ℕ) → HasCaught config (λ symbol. (at before.floor symbol).reports) entry start
      → HasCaught config (λ symbol. (at after.floor symbol).reports) entry stop

-- how a turn ends a session: the peer gave no more, and nothing else is done; or the turn was stopped
abbrev pub TurnEnds : {F : Type 0} → (F → ℕ → SymbolView) → FloorMark → Config → ℕ → LinkTurn → Served → LinkEnd → DeskView → F → F → Option Told → Option Told → Type 0
TurnEnds at mark config feed turn served end desk floor floor' link link' =
    ((end ≡ PeerEnd) × (turn.answer ≡ ended) × Serves desk served × (floor' ≡ floor) × (link' ≡ link))
    ⊎ StoppedTurn at mark config feed turn served end desk floor floor' link link'

-- the last turn
pub record LastTurn {F : Type 0} (at : F → ℕ → SymbolView) (mark : FloorMark) (config : Config) (feed : ℕ) (served : Served) (end : LinkEnd) (desk : DeskView) (before after : Ground F) : Type 0 where
  pub turn : LinkTurn
  pub asked : Option Told
  pub told : TurnsWere (turn ∷ []) [] before.link before.clock asked after.clock
  pub ends : TurnEnds at mark config feed turn served end desk before.floor after.floor asked after.link

-- the session ended by its last turn, or a pull failed
abbrev pub EndsBy : {F : Type 0} → (F → ℕ → SymbolView) → FloorMark → Config → ℕ → Served → LinkEnd → DeskView → Ground F → Ground F → Type 0
EndsBy at mark config feed served end desk before after =
    ((end ≡ LinkFault) × (after ≡ before)) ⊎ LastTurn at mark config feed served end desk before after

-- a whole session: turns that were worked whole, and then its end
pub record Session {F : Type 0} (at : F → ℕ → SymbolView) (mark : FloorMark) (config : Config) (feed : ℕ) (start : Served) (end : LinkEnd) (desk : DeskView) (before after : Ground F) : Type 0 where
  pub last : DeskView
  pub middle : Ground F
  pub so_far : SoFar at config feed start last before middle
  pub ends : EndsBy at mark config feed so_far.stop end desk middle after
