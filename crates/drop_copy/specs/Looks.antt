-- What looks for copies do to a floor and to the cursors.
use Rattle.std.specs.Prelude.{◌≡◌, ◌≤◌, ◌<◌, ◌+◌, ◌*◌, ◌++◌, max, ℕ, List, length, slice_index}
use Rattle.std.specs.List.{flat_map, range_with_len}
use Rattle.venue_words.specs.declared.command.Event.{Event}
use Rattle.venue_words.specs.declared.config.Config.{Config}
use Rattle.venue_words.specs.declared.report.Report.{Report}
use Rattle.venue_words.specs.Floors.{SymbolView, TurnsRose}
use Rattle.venue_words.specs.Journals.{StartsWith}
use Rattle.session_core.specs.declared.message.Message.{Message}
use Rattle.member_gate.specs.Answering.{name_at}
use Rattle.member_gate.specs.Reporting.{cursor_at}
use Rattle.drop_copy.specs.Copies.{copies, cursor_of}

-- A cursor went on to the end of the reports of some events, where that is further on: events that begin with all that had been
-- seen before, and with which all that is seen now begins.
pub record WentOn (made : List Event → List Report) (before after : SymbolView) (cursor moved : ℕ) : Type 0 where
  pub seen : List Event
  pub begins : StartsWith seen before.journal
  pub stands : StartsWith after.journal seen
  pub shows : StartsWith (made seen) before.reports
  pub shown : StartsWith after.reports (made seen)
  pub moved_is : moved ≡ max cursor (length (made seen))

-- the cursors of each of so many symbols went on, those of the last listed member to the end of all reports that are shown now;
-- behind these symbols none moved
pub record AllWentOn {F : Type 0} (at : F → ℕ → SymbolView) (made : ℕ → List Event → List Report) (symbols : ℕ) (members cursors moved : List ℕ) (before after : F) : Type 0 where
  pub each : (symbol place : ℕ) → symbol < symbols → place < length members
      → WentOn (made symbol) (at before symbol) (at after symbol) (cursor_of members cursors symbol place) (cursor_of members moved symbol place)
  pub last : (symbol place : ℕ) → symbol < symbols → place + 1 ≡ length members
      → cursor_of members moved symbol place ≡ max (cursor_of members cursors symbol place) (length (at after symbol).reports)
  pub rest : (index : ℕ) → symbols * length members ≤ index → cursor_at moved index ≡ cursor_at cursors index

-- the copies of a symbol for the listed member at a place; his cursor stands at this index, and its new value in a row
abbrev pub row_copies : Config → ℕ → List ℕ → List ℕ → ℕ → List ℕ → List Report → ℕ → List Message
row_copies config symbol members cursors first row reports place =
    copies config (name_at config.symbols symbol) (slice_index members place)
    (cursor_at cursors (first + place)) (slice_index row place) reports

-- The copies of a symbol were added for the first listed members, so many, and a cursor for each behind those that were there.
pub record LookedSoFar (made : List Event → List Report) (config : Config) (symbol : ℕ) (members cursors : List ℕ) (before after : SymbolView) (messages messages' : List Message) (moved moved' : List ℕ) (count : ℕ) : Type 0 where
  pub row : List ℕ
  pub moved_are : moved' ≡ moved ++ row
  pub many : length row ≡ count
  pub messages_are : messages' ≡ messages ++ flat_map (row_copies config symbol members cursors (length moved) row after.reports) (range_with_len 0 count)
  pub each : (place : ℕ) → place < count
      → WentOn made before after (cursor_at cursors (length moved + place)) (slice_index row place)
  pub last : (place : ℕ) → place + 1 ≡ count
      → slice_index row place ≡ max (cursor_at cursors (length moved + place)) (length after.reports)
  pub turns : 0 < count → TurnsRose before.turns after.turns

-- for all listed members
abbrev pub LookedRow : (List Event → List Report) → Config → ℕ → List ℕ → List ℕ → SymbolView → SymbolView → List Message → List Message → List ℕ → List ℕ → Type 0
LookedRow made config symbol members cursors before after messages messages' moved moved' =
    LookedSoFar made config symbol members cursors before after messages messages' moved moved' (length members)
