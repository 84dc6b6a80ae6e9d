-- What is kept of a feed from line to line.
use Rattle.std.specs.Prelude.{ℕ, ℤ, List, [], map, length, slice_get, slice_set, unwrap_or}
use Rattle.std.specs.List.{range_with_len}
use Rattle.venue_words.specs.declared.config.Config.{Config}
use Rattle.session_core.specs.Machine.{Machine, fresh}
use Rattle.member_gate.specs.Answering.{name_at}

-- a member's connection: his number, his session, and all bytes that the connection brought so far
pub record Connection : Type 0 where
  pub number : ℕ
  pub session : Machine
  pub stream : List ℕ

-- the moment, and the connections of all members in the header's order
pub record FeedState : Type 0 where
  pub config : Config
  pub moment : ℤ
  pub connections : List Connection

-- a member before his first connection
abbrev pub new_connection : Config → ℕ → Connection
new_connection config number =
    record { number = number; session = fresh (name_at config.members number); stream = [] }

-- before the first line
abbrev pub before_lines : Config → FeedState
before_lines config =
    record {
      config = config;
      moment = config.begin;
      connections = map (new_connection config) (range_with_len 0 (length config.members));
    }

-- the connection of the member of a number
abbrev pub connection_at : FeedState → ℕ → Connection
connection_at state number = unwrap_or (slice_get state.connections number) (new_connection state.config number)

abbrev pub with_connection : FeedState → ℕ → Connection → FeedState
with_connection state number connection =
    record state { connections = slice_set state.connections number connection }
