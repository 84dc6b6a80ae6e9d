-- What goes out behind each line: for each member whose session is up, his reports that were not sent yet.
use Rattle.std.specs.Prelude.{ℕ, ℤ, max, if◌then◌else◌, List, length, map}
use Rattle.std.specs.List.{flat_map, range_with_len}
use Rattle.venue_words.specs.declared.command.Event.{Event}
use Rattle.venue_words.specs.declared.config.Config.{Config}
use Rattle.venue_words.specs.Floors.{SymbolView}
use Rattle.session_core.specs.Machine.{Outcome}
use Rattle.session_core.specs.Runs.{send_if_up}
use Rattle.session_core.specs.State.{is_up}
use Rattle.member_gate.specs.Answering.{name_at}
use Rattle.member_gate.specs.Reporting.{cursor_at, messages_past, AreFronts}
use Rattle.line_work.specs.FeedState.{Connection}
use Rattle.line_work.specs.Output.{frame_lines}
use Rattle.replay_core.specs.Playing.{Playing, Member, members_of, with_members, reports_at}

-- the member's session sends his reports past the cursors, by symbol in the header's order
abbrev pub sent_to : Config → ℤ → List (List Event) → Member → Outcome
sent_to config moment journals member =
    send_if_up member.connection.session
    (messages_past config member.connection.number member.cursors (reports_at config journals)) moment

-- each symbol's cursor at the end of its reports, or where it was if that is further on
abbrev pub moved_cursors : Config → List (List Event) → List ℕ → List ℕ
moved_cursors config journals cursors =
    map (λ symbol. max (cursor_at cursors symbol) (length (reports_at config journals symbol)))
    (range_with_len 0 (length config.symbols))

abbrev pub pulled_connection : Config → ℤ → List (List Event) → Member → Connection
pulled_connection config moment journals member =
    record member.connection { session = (sent_to config moment journals member).machine }

abbrev pub pulled : Config → ℤ → List (List Event) → Member → Member
pulled config moment journals member =
    record {
      connection = pulled_connection config moment journals member;
      cursors =
          if is_up member.connection.session.state
          then moved_cursors config journals member.cursors
          else member.cursors;
    }

abbrev pub pull_lines : Config → ℤ → List (List Event) → Member → List ℕ
pull_lines config moment journals member =
    frame_lines (name_at config.members member.connection.number) (sent_to config moment journals member).turn.replies

-- the player behind all that goes out, and the lines of output
abbrev pub after_pulls : Playing → Playing
after_pulls playing =
    with_members playing (map (pulled playing.feed.config playing.feed.moment playing.journals) (members_of playing))

abbrev pub lines_of_pulls : Playing → List ℕ
lines_of_pulls playing = flat_map (pull_lines playing.feed.config playing.feed.moment playing.journals) (members_of playing)

-- how many reports a floor shows of each symbol of a config
abbrev pub ShowsFronts : {F : Type 0} → (F → ℕ → SymbolView) → Config → F → List ℕ → Type 0
ShowsFronts at config floor fronts = AreFronts (length config.symbols) (λ symbol. (at floor symbol).reports) fronts
