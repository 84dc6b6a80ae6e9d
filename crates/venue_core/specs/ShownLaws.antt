-- What a floor shows of a configured symbol are the reports that the shown journal makes at the symbol's setting.
use Rattle.std.proofs.Common.{◌≡◌, ℕ, zero, suc, ◌<◌, List, [], ◌∷◌, map, length, slice_get, Option, None, Some, refl, ap, arith}
use Rattle.std.specs.List.{range_with_len}
use Rattle.std.proofs.lemmas.List.{length-map}
use Rattle.turn_gate.specs.Seats.{GateId, SeatState}
use Rattle.venue_words.specs.declared.command.Event.{Event}
use Rattle.venue_words.specs.declared.report.Report.{Report}
use Rattle.venue_core.specs.Marks.{seat_mark, mark_of, plain_mark, setting_in, first_number}
use Rattle.venue_core.specs.Shown.{shown_by_seat, shown_by_book, shown_of}
use Rattle.venue_core.specs.Venues.{VenueId, setup_in, AreSeatsOf, PlainState, plain_setup}

seats_show : (reports : ℕ → List Event → List Report) (seats : List SeatState) (symbol : ℕ) → symbol < length seats
    → (shown_by_seat reports (slice_get seats symbol)).reports
    ≡ reports (first_number (slice_get (map seat_mark seats) symbol)) (shown_by_seat reports (slice_get seats symbol)).journal
seats_show reports [] symbol within = absurd (omega arith)
seats_show reports (seat ∷ seats) zero within = refl
seats_show reports (seat ∷ seats) (suc symbol) within = seats_show reports seats symbol (omega arith)

-- over gates, where the seats are those of the venue
pub seat_shows_reports : (reports : ℕ → List Event → List Report) (venue : VenueId) (seats : List SeatState) (symbol : ℕ)
    → AreSeatsOf venue seats → symbol < length (setup_in venue).limits
    → (shown_by_seat reports (slice_get seats symbol)).reports
    ≡ reports (setting_in (mark_of venue seats) symbol) (shown_by_seat reports (slice_get seats symbol)).journal
seat_shows_reports reports venue seats symbol are within =
    let gates = length-map venue.gates (λ (gate : GateId). gate.limit) in
    let same = length-map seats (λ (seat : SeatState). seat.gate) in
    let count = ap length are in
    seats_show reports seats symbol (omega arith)

module _ {V : Type 0} (journal_of : V → List Event) (limit_of setting_of : V → ℕ) (reports : ℕ → List Event → List Report) where
  abbrev Show : Option V → List Report
  Show book = (shown_by_book journal_of setting_of reports book).reports

  abbrev Journal : Option V → List Event
  Journal book = (shown_by_book journal_of setting_of reports book).journal

  books_show : (books : List V) (symbol : ℕ) → symbol < length books
      → Show (slice_get books symbol)
      ≡ reports (first_number (slice_get (map (λ book. setting_of book ∷ []) books) symbol)) (Journal (slice_get books symbol))
  books_show [] symbol within = absurd (omega arith)
  books_show (book ∷ books) zero within = refl
  books_show (book ∷ books) (suc symbol) within = books_show books symbol (omega arith)

  -- on one thread
  pub book_shows_reports : (venue : PlainState V) (symbol : ℕ) → symbol < length (plain_setup limit_of venue).limits
      → (shown_of journal_of setting_of reports venue symbol).reports
      ≡ reports (setting_in (plain_mark limit_of setting_of venue) symbol)
      (shown_of journal_of setting_of reports venue symbol).journal
  book_shows_reports venue symbol within =
      let same = length-map venue.books limit_of in books_show venue.books symbol (omega arith)

  -- there every event is an own one
  pub book_shows_own : (venue : PlainState V) (symbol : ℕ)
      → (shown_of journal_of setting_of reports venue symbol).mine
      ≡ range_with_len 1 (length (shown_of journal_of setting_of reports venue symbol).journal)
  book_shows_own venue symbol = own (slice_get venue.books symbol)
    where
      own : (book : Option V) → (shown_by_book journal_of setting_of reports book).mine ≡ range_with_len 1 (length (Journal book))
      own None = refl
      own (Some book) = refl
