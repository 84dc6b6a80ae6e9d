-- The books of a config's venue.
use Rattle.std.proofs.Common.{◌≡◌, ◌<◌, ◌≤◌, ℕ, zero, suc, List, [], ◌∷◌, length, map, slice_get, slice_index, Some, sym, ap, ◌∙◌, subst, arith}
use Rattle.std.proofs.lemmas.List.{length-map}
use Rattle.venue_words.specs.Conditions.{IsConfig}
use Rattle.venue_words.specs.Floors.{Setup, setup_of}
use Rattle.venue_words.specs.declared.config.Config.{Config}
use Rattle.eager_meaning.specs.Interleaving.{Interleaves}
use Rattle.symbol_book.specs.Book.{BookView}
use Rattle.symbol_book.specs.Setting.{book_setting}
use Rattle.turn_gate.specs.Seats.{GateId, SeatState}
use Rattle.venue_core.specs.ConfigVenues.{IsVenueOf}
use Rattle.venue_core.specs.ConfigVenueLaws.{run_of_setting}
use Rattle.venue_core.specs.Marks.{seat_mark, mark_of, first_number}
use Rattle.venue_core.specs.Venues.{VenueId, AreSeatsOf, setup_in}
use Rattle.feeds_core.specs.Books.{IsWorkedBook, count_at, FitLimits}
use Rattle.feed_work.specs.Feeds.{Asked, commands_at}

setting_at : (books : List BookView) (seats : List SeatState) (symbol : ℕ) (book : BookView)
    → map book_setting books ≡ map (λ (gate : GateId). gate.setting) (map (λ (seat : SeatState). seat.gate) seats)
    → slice_get books symbol ≡ Some book → book_setting book ≡ first_number (slice_get (map seat_mark seats) symbol)
setting_at [] seats symbol book same at = absurd (cc)
setting_at (b ∷ books) [] symbol book same at = absurd (cc)
setting_at (b ∷ books) (seat ∷ seats) zero book same at =
    let is : b ≡ book = (cc) in
    let first : book_setting b ≡ seat.gate.setting = (cc) in
    ap book_setting (sym is) ∙ first
setting_at (b ∷ books) (seat ∷ seats) (suc symbol) book same at =
    let rest : map book_setting books ≡ map (λ (gate : GateId). gate.setting) (map (λ (seat : SeatState). seat.gate) seats) = (cc) in
    setting_at books seats symbol book rest at

-- as many books as symbols
pub count_books : (config : Config) (venue : VenueId) (books : List BookView) → IsConfig config → setup_in venue ≡ setup_of config
    → map book_setting books ≡ map (λ (gate : GateId). gate.setting) venue.gates → length books ≡ length config.symbols
count_books config venue books is setup same =
    omega (
      arith,
      ap length same,
      length-map books book_setting,
      length-map venue.gates (λ (gate : GateId). gate.setting),
      length-map venue.gates (λ (gate : GateId). gate.limit),
      ap (λ (s : Setup). length s.limits) setup,
      is.limit_each,
    )

pub worked_book : (config : Config) (venue : VenueId) (seats : List SeatState) (books : List BookView) (feeds : List (List Asked))
    (symbol : ℕ) (book : BookView) → IsConfig config → IsVenueOf config (mark_of venue seats) → AreSeatsOf venue seats
    → map book_setting books ≡ map (λ (gate : GateId). gate.setting) venue.gates → symbol < length config.symbols
    → slice_get books symbol ≡ Some book → Interleaves book.journal (map (commands_at symbol) feeds)
    → IsWorkedBook config feeds symbol book
worked_book config venue seats books feeds symbol book is of_config are same within at interleaves = record {
  interleaves = interleaves;
  run = run_of_setting config symbol (book_setting book) book.journal is within
      (setting_at books seats symbol book (same ∙ ap (map (λ (gate : GateId). gate.setting)) (sym are)) at
      ∙ of_config.settings symbol within);
}

-- what fits the config fits the venue
pub fits : (config : Config) (venue : VenueId) (feeds : List (List Asked)) → IsConfig config → setup_in venue ≡ setup_of config
    → FitLimits config feeds → (symbol : ℕ) → symbol < length venue.gates
    → count_at symbol feeds ≤ slice_index (setup_in venue).limits symbol
fits config venue feeds is setup fit symbol lt =
    subst (λ (s : Setup). count_at symbol feeds ≤ slice_index s.limits symbol) (sym setup)
    (fit symbol (omega (
      arith,
      lt,
      length-map venue.gates (λ (gate : GateId). gate.limit),
      ap (λ (s : Setup). length s.limits) setup,
      is.limit_each,
    )))
