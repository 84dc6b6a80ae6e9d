-- How what a worker of lines keeps stands for the state of its feed.
use Rattle.std.specs.Prelude.{◌≡◌, ◌⊎◌, ℤ, List, length, map}
use Rattle.std.specs.List.{AllZip, range_with_len}
use Rattle.venue_words.specs.declared.config.Config.{Config}
use Rattle.session_core.specs.Machine.{IsOver}
use Rattle.member_gate.specs.Desks.{DeskView, fresh_desks}
use Rattle.member_gate.specs.Working.{AreUnread}
use Rattle.line_work.specs.FeedState.{FeedState, Connection}

-- what is kept: the config, the moment, and the desk of each member
pub record WorkerView : Type 0 where
  pub config : Config
  pub moment : ℤ
  pub desks : List DeskView

abbrev pub worker_of : Config → ℤ → List DeskView → WorkerView
worker_of config moment desks = record { config = config; moment = moment; desks = desks }

-- a desk for each member, in their order
abbrev pub AreDesks : Config → List DeskView → Type 0
AreDesks config desks = map (λ desk. desk.member) desks ≡ range_with_len 0 (length config.members)

-- before the first line
abbrev pub fresh_worker : Config → WorkerView
fresh_worker config = worker_of config config.begin (fresh_desks config)

-- a desk is that of a connection: what it has not read goes on from the connection's stream, unless the session is over
pub record IsDeskOf (desk : DeskView) (connection : Connection) : Type 0 where
  pub number : desk.member ≡ connection.number
  pub session : desk.session ≡ connection.session
  pub stream : IsOver connection.session ⊎ AreUnread connection.stream desk.unread

-- what is kept stands for the state of a feed
pub record StandsFor (worker : WorkerView) (state : FeedState) : Type 0 where
  pub config : worker.config ≡ state.config
  pub moment : worker.moment ≡ state.moment
  pub desks : AllZip IsDeskOf worker.desks state.connections
