-- What a floor shows of one symbol.
use Rattle.std.specs.Prelude.{ℕ, List, [], length, slice_get, Option, Some, None}
use Rattle.std.specs.List.{range_with_len}
use Rattle.turn_gate.specs.Seats.{SeatState}
use Rattle.venue_words.specs.Floors.{SymbolView}
use Rattle.venue_words.specs.declared.command.Event.{Event}
use Rattle.venue_words.specs.declared.report.Report.{Report}
use Rattle.venue_core.specs.Venues.{PlainState}

-- what there is at a symbol that is not configured
abbrev pub nothing_shown : SymbolView
nothing_shown = record { journal = []; reports = []; mine = []; turns = None }

-- the journal that the seat has seen, the reports that it makes, the seat's own numbers and its turns
abbrev pub shown_by_seat : (ℕ → List Event → List Report) → Option SeatState → SymbolView
shown_by_seat reports None = nothing_shown
shown_by_seat reports (Some seat) = record {
  journal = seat.seen;
  reports = reports seat.gate.setting seat.seen;
  mine = seat.mine;
  turns = Some seat.turns;
}

-- the book's journal and its reports; every event is an own one, and there are no turns
abbrev pub shown_by_book : {V : Type 0} → (V → List Event) → (V → ℕ) → (ℕ → List Event → List Report)
    → Option V → SymbolView
shown_by_book journal_of setting_of reports None = nothing_shown
shown_by_book journal_of setting_of reports (Some book) = record {
  journal = journal_of book;
  reports = reports (setting_of book) (journal_of book);
  mine = range_with_len 1 (length (journal_of book));
  turns = None;
}

-- what a venue for one thread shows of a symbol
abbrev pub shown_of : {V : Type 0} → (V → List Event) → (V → ℕ) → (ℕ → List Event → List Report)
    → PlainState V → ℕ → SymbolView
shown_of journal_of setting_of reports venue symbol =
    shown_by_book journal_of setting_of reports (slice_get venue.books symbol)
