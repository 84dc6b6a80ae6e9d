-- A body in the middle: what is kept from line to line.
use Rattle.std.specs.Prelude.{ℕ, List, [], ◌∷◌, map, length, slice_get, unwrap_or, replicate}
use Rattle.venue_words.specs.declared.config.Config.{Config}
use Rattle.venue_words.specs.declared.command.Event.{Event}
use Rattle.venue_words.specs.declared.report.Report.{Report}
use Rattle.line_work.specs.FeedState.{FeedState, Connection, before_lines}
use Rattle.venue_core.specs.Runs.{run_in}

-- the state of the script as a feed; for each member how many reports of each symbol were gone through; and the journal of
-- each symbol
pub record Playing : Type 0 where
  pub feed : FeedState
  pub cursors : List (List ℕ)
  pub journals : List (List Event)

-- before the first line of the body
abbrev pub before_body : Config → Playing
before_body config =
    record {
      feed = before_lines config;
      cursors = replicate (length config.members) [];
      journals = replicate (length config.symbols) [];
    }

-- a member: his connection, and his cursors
pub record Member : Type 0 where
  pub connection : Connection
  pub cursors : List ℕ

abbrev pub members_in : List Connection → List (List ℕ) → List Member
members_in [] _ = []
members_in (connection ∷ connections) [] = []
members_in (connection ∷ connections) (cursors ∷ others) =
    record { connection = connection; cursors = cursors } ∷ members_in connections others

-- the members in the header's order
abbrev pub members_of : Playing → List Member
members_of playing = members_in playing.feed.connections playing.cursors

abbrev pub with_members : Playing → List Member → Playing
with_members playing members =
    record playing {
      feed = record playing.feed { connections = map (λ member. member.connection) members };
      cursors = map (λ member. member.cursors) members;
    }

-- the journal of a symbol
abbrev pub journal_at : List (List Event) → ℕ → List Event
journal_at journals symbol = unwrap_or (slice_get journals symbol) []

abbrev pub reports_in : Config → ℕ → List Event → List Report
reports_in config symbol journal = (run_in config symbol journal).reports

-- the reports of a symbol so far
abbrev pub reports_at : Config → List (List Event) → ℕ → List Report
reports_at config journals symbol = reports_in config symbol (journal_at journals symbol)
