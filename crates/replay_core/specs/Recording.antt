-- What commands make of the journals, and how many steps they may take.
use Rattle.std.specs.Prelude.{ℕ, ◌+◌, ℤ, Bool, true, false, nat_lt, if◌then◌else◌, List, [], ◌∷◌, ◌++◌, length, slice_index, slice_set}
use Rattle.venue_words.specs.declared.config.Config.{Config}
use Rattle.venue_words.specs.declared.command.Event.{Event}
use Rattle.venue_words.specs.Journals.{event}
use Rattle.member_gate.specs.Answering.{Submission}
use Rattle.venue_core.specs.Runs.{most_steps}
use Rattle.replay_core.specs.Playing.{journal_at}

-- the journals behind commands, the most steps that these may take, and whether one of them found its journal full: it
-- and the commands behind it are in no journal
pub record Recorded : Type 0 where
  pub journals : List (List Event)
  pub steps : ℕ
  pub is_full : Bool

-- whether a symbol's journal holds fewer events than its limit
unfoldable pub has_room : Config → List (List Event) → ℕ → Bool
has_room config journals symbol = nat_lt (length (journal_at journals symbol)) (slice_index config.limits symbol)

-- a command as the next event of its symbol; a script is one feed
abbrev pub next_event : ℤ → Submission → List (List Event) → Event
next_event moment one journals = event (length (journal_at journals one.symbol) + 1) 1 moment one.command

-- the journals with a command as the next event of its symbol
abbrev pub with_event : ℤ → Submission → List (List Event) → List (List Event)
with_event moment one journals =
    slice_set journals one.symbol (journal_at journals one.symbol ++ next_event moment one journals ∷ [])

abbrev pub none_recorded : List (List Event) → Bool → Recorded
none_recorded journals is_full = record { journals = journals; steps = 0; is_full = is_full }

abbrev pub recorded_behind : ℕ → Recorded → Recorded
recorded_behind steps others = record others { steps = steps + others.steps }

-- commands of one moment, in their order
abbrev pub recorded : Config → ℤ → List Submission → List (List Event) → Recorded
recorded config moment [] journals = none_recorded journals false
recorded config moment (one ∷ others) journals =
    if has_room config journals one.symbol
    then recorded_behind
    (most_steps config one.symbol (journal_at journals one.symbol) (next_event moment one journals))
    (recorded config moment others (with_event moment one journals))
    else none_recorded journals true
