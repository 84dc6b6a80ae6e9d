-- What the venue of a config shows is what the market's rules make with the config.
use Rattle.std.proofs.Common.{◌≡◌, ℕ, zero, suc, ◌<◌, List, [], ◌∷◌, map, length, slice_get, slice_index, Option, Some, refl, sym, ap, subst, ◌∙◌, arith}
use Rattle.std.specs.List.{All, AllByRecursion, AllZip}
use Rattle.std.specs.Prelude.{nat_lt}
use Rattle.std.proofs.lemmas.List.{length-map}
use Rattle.std.proofs.lemmas.List.Elements.{recursion_from_All}
use Rattle.venue_words.specs.Conditions.{IsConfig, IsTick}
use Rattle.venue_words.specs.FloorLaws.{sets_up}
use Rattle.venue_words.specs.Floors.{Setup, FloorMark, SymbolView, IsSetUpFor, is_configured, setup_of}
use Rattle.venue_words.specs.declared.config.Config.{Config}
use Rattle.venue_words.specs.declared.command.Command.{Command}
use Rattle.venue_words.specs.declared.command.Command.TheVariants.{Quote, New, Cancel, Replace, Status}
use Rattle.venue_words.specs.declared.command.Event.{Event}
use Rattle.venue_words.specs.declared.report.Report.{Report}
use Rattle.eager_meaning.specs.Step.{Run}
use Rattle.symbol_book.specs.Book.{BookView}
use Rattle.symbol_book.specs.Setting.{setting_of, book_setting, run_at, reports_at, steps_at}
use Rattle.symbol_book.specs.SettingLaws.{run_at-setting_of, steps_at-setting_of}
use Rattle.turn_gate.specs.Seats.{GateId, SeatState}
use Rattle.venue_core.specs.Books.{IsNewBook}
use Rattle.venue_core.specs.Closing.{IsBookOf}
use Rattle.venue_core.specs.ConfigVenues.{IsVenueOf, IsFloorOf, book_reports_in, book_step_limit, book_seen, plain_book_mark, plain_book_view, plain_book_state, state_of_book}
use Rattle.venue_core.specs.Joining.{IsFirstSeat}
use Rattle.venue_core.specs.Marks.{seat_mark, mark_of, setting_in, first_number}
use Rattle.venue_core.specs.Runs.{run_in, most_steps}
use Rattle.venue_core.specs.Shown.{shown_by_seat, shown_by_book}
use Rattle.venue_core.specs.ShownLaws.{seat_shows_reports, book_shows_reports}
use Rattle.venue_core.specs.Venues.{VenueId, setup_in, AreSeatsOf, PlainState, plain_setup}

-- ---- settings

tick_at : (ticks : List ℕ) (symbol : ℕ) → AllByRecursion IsTick ticks → symbol < length ticks → IsTick (slice_index ticks symbol)
tick_at [] symbol all within = absurd (omega arith)
tick_at (tick ∷ ticks) zero all within = all.0
tick_at (tick ∷ ticks) (suc symbol) all within = tick_at ticks symbol all.1 (omega arith)

tick_of : (config : Config) (symbol : ℕ) → IsConfig config → symbol < length config.symbols → IsTick (slice_index config.ticks symbol)
tick_of config symbol is within = tick_at config.ticks symbol is.ticks (omega (arith, is.tick_each))

-- a journal makes at the setting of a symbol what it makes with the config
pub run_of_setting : (config : Config) (symbol setting : ℕ) (journal : List Event) → IsConfig config
    → symbol < length config.symbols → setting ≡ setting_of (length config.markets) (slice_index config.ticks symbol)
    → run_at setting journal ≡ run_in config symbol journal
unfolding run_in
run_of_setting config symbol setting journal is within so =
    ap (λ (s : ℕ). run_at s journal) so
    ∙ run_at-setting_of (length config.markets) (slice_index config.ticks symbol) journal (tick_of config symbol is within)

pub steps_of_setting : (config : Config) (symbol setting : ℕ) (journal : List Event) (event : Event) → IsConfig config
    → symbol < length config.symbols → setting ≡ setting_of (length config.markets) (slice_index config.ticks symbol)
    → steps_at setting journal event ≡ most_steps config symbol journal event
unfolding most_steps run_in
steps_of_setting config symbol setting journal event is within so =
    ap (λ (s : ℕ). steps_at s journal event) so
    ∙ steps_at-setting_of (length config.markets) (slice_index config.ticks symbol) journal event (tick_of config symbol is within)

-- ---- a venue of a config

pub venue_is_set_up : (config : Config) (mark : FloorMark) → IsConfig config → IsVenueOf config mark → IsSetUpFor config mark.setup
venue_is_set_up config mark is venue = subst (IsSetUpFor config) (sym venue.setup) (sets_up config is)

-- floors over its books are floors of the config
pub venue_is_floor : (config : Config) (mark : FloorMark) → IsConfig config → IsVenueOf config mark
    → IsFloorOf book_reports_in book_step_limit config mark
venue_is_floor config mark is venue = record {
  setup = venue_is_set_up config mark is venue;
  reports = λ symbol journal within.
      ap (λ (run : Run). run.reports)
      (run_of_setting config symbol (setting_in mark symbol) journal is within (venue.settings symbol within));
  steps = λ symbol journal event within.
      ap Some (steps_of_setting config symbol (setting_in mark symbol) journal event is within (venue.settings symbol within));
}

-- a symbol of the config is one of the floor, and a command of the config's things is one of the floor's
pub is_symbol : (config : Config) (setup : Setup) (symbol : ℕ) → IsSetUpFor config setup → symbol < length config.symbols
    → symbol < length setup.limits
is_symbol config setup symbol is within = omega (arith, is.symbols)

pub configured_alike : (config : Config) (setup : Setup) (command : Command) → IsSetUpFor config setup
    → is_configured (setup_of config) command ≡ is_configured setup command
configured_alike config setup (Quote market bid offer) is = ap (nat_lt market) (sym is.markets)
configured_alike config setup (New member id terms) is = ap (nat_lt member) (sym is.members)
configured_alike config setup (Cancel member id orig) is = ap (nat_lt member) (sym is.members)
configured_alike config setup (Replace member id orig terms) is = ap (nat_lt member) (sym is.members)
configured_alike config setup (Status member id side) is = ap (nat_lt member) (sym is.members)

-- a floor of the config, of whatever kind, shows of each symbol the reports that the shown journal makes
pub floor_shows_run : {F : Type 0} (mark_of : F → FloorMark) (at : F → ℕ → SymbolView)
    (reports_in : FloorMark → ℕ → List Event → List Report) (step_limit : FloorMark → ℕ → List Event → Event → Option ℕ)
    (config : Config) (floor : F) (symbol : ℕ)
    → ((floor : F) (symbol : ℕ) → symbol < length (mark_of floor).setup.limits
    → (at floor symbol).reports ≡ reports_in (mark_of floor) symbol (at floor symbol).journal)
    → IsFloorOf reports_in step_limit config (mark_of floor) → symbol < length config.symbols
    → (at floor symbol).reports ≡ (run_in config symbol (at floor symbol).journal).reports
floor_shows_run mark_of at reports_in step_limit config floor symbol of_journal of_config within =
    of_journal floor symbol (is_symbol config (mark_of floor).setup symbol of_config.setup within)
    ∙ of_config.reports symbol (at floor symbol).journal within

-- ---- over gates

first_setting : (markets : ℕ) (seats : List SeatState) (gates : List GateId) (ticks : List ℕ) (symbol : ℕ)
    → map (λ seat. seat.gate) seats ≡ gates → map (λ gate. gate.setting) gates ≡ map (setting_of markets) ticks
    → symbol < length ticks
    → first_number (slice_get (map seat_mark seats) symbol) ≡ setting_of markets (slice_index ticks symbol)
first_setting markets seats gates [] symbol are same within = absurd (omega arith)
first_setting markets seats [] (tick ∷ ticks) symbol are same within = absurd (cc)
first_setting markets [] (gate ∷ gates) (tick ∷ ticks) symbol are same within = absurd (cc)
first_setting markets (seat ∷ seats) (gate ∷ gates) (tick ∷ ticks) zero are same within =
    let its : seat.gate ≡ gate = (cc) in
    let so : gate.setting ≡ setting_of markets tick = (cc) in
    ap (λ (g : GateId). g.setting) its ∙ so
first_setting markets (seat ∷ seats) (gate ∷ gates) (tick ∷ ticks) (suc symbol) are same within =
    let rest : map (λ (seat : SeatState). seat.gate) seats ≡ gates = (cc) in
    let more : map (λ (gate : GateId). gate.setting) gates ≡ map (setting_of markets) ticks = (cc) in
    first_setting markets seats gates ticks symbol rest more (omega arith)

-- seats of gates with the settings of a config are over a venue of it
pub seats_of_config : (config : Config) (venue : VenueId) (seats : List SeatState) → IsConfig config
    → setup_in venue ≡ setup_of config
    → map (λ gate. gate.setting) venue.gates ≡ map (setting_of (length config.markets)) config.ticks
    → AreSeatsOf venue seats → IsVenueOf config (mark_of venue seats)
seats_of_config config venue seats is setup settings are = record {
  setup = setup;
  settings = λ symbol within.
      first_setting (length config.markets) seats venue.gates config.ticks symbol are settings (omega (arith, is.tick_each));
}

same_settings : (seats others : List SeatState) (symbol : ℕ)
    → map (λ seat. seat.gate) others ≡ map (λ seat. seat.gate) seats
    → first_number (slice_get (map seat_mark others) symbol) ≡ first_number (slice_get (map seat_mark seats) symbol)
same_settings [] [] symbol same = refl
same_settings [] (other ∷ others) symbol same = absurd (cc)
same_settings (seat ∷ seats) [] symbol same = absurd (cc)
same_settings (seat ∷ seats) (other ∷ others) zero same =
    let its : other.gate ≡ seat.gate = (cc) in ap (λ (gate : GateId). gate.setting) its
same_settings (seat ∷ seats) (other ∷ others) (suc symbol) same =
    let rest : map (λ (seat : SeatState). seat.gate) others ≡ map (λ (seat : SeatState). seat.gate) seats = (cc) in
    same_settings seats others symbol rest

-- so are all seats of the venue of some that are
pub other_seats_of_config : (config : Config) (venue : VenueId) (seats others : List SeatState)
    → IsVenueOf config (mark_of venue seats) → AreSeatsOf venue seats → AreSeatsOf venue others
    → IsVenueOf config (mark_of venue others)
other_seats_of_config config venue seats others is are others_are = record {
  setup = is.setup;
  settings = λ symbol within. same_settings seats others symbol (others_are ∙ sym are) ∙ is.settings symbol within;
}

-- a seat shows the reports that its journal makes
pub seat_shows_run : (config : Config) (venue : VenueId) (seats : List SeatState) (symbol : ℕ) → IsConfig config
    → IsVenueOf config (mark_of venue seats) → AreSeatsOf venue seats → symbol < length config.symbols
    → (book_seen seats symbol).reports ≡ (run_in config symbol (book_seen seats symbol).journal).reports
seat_shows_run config venue seats symbol is of_config are within =
    seat_shows_reports reports_at venue seats symbol are (is_symbol config (setup_in venue) symbol (venue_is_set_up config (mark_of venue seats) is of_config) within)
    ∙ (venue_is_floor config (mark_of venue seats) is of_config).reports symbol (book_seen seats symbol).journal within

closed_setting : (seats : List SeatState) (books : List BookView) (symbol : ℕ) (book : BookView)
    → AllZip (IsBookOf (λ book. book.journal) (λ book. book.limit) book_setting) seats books
    → slice_get books symbol ≡ Some book
    → book_setting book ≡ first_number (slice_get (map seat_mark seats) symbol)
closed_setting seats [] symbol book all at = absurd (cc)
closed_setting [] (b ∷ books) symbol book all at = absurd all
closed_setting (seat ∷ seats) (b ∷ books) zero book all at =
    let is : b ≡ book = (cc) in ap book_setting (sym is) ∙ all.0.setting
closed_setting (seat ∷ seats) (b ∷ books) (suc symbol) book all at = closed_setting seats books symbol book all.1 at

-- a book that a closed venue handed back has the state and the reports that its journal makes
pub closed_book_run : (config : Config) (venue : VenueId) (seats : List SeatState) (books : List BookView) (symbol : ℕ)
    (book : BookView) → IsConfig config → IsVenueOf config (mark_of venue seats)
    → AllZip (IsBookOf (λ book. book.journal) (λ book. book.limit) book_setting) seats books
    → symbol < length config.symbols → slice_get books symbol ≡ Some book
    → run_at (book_setting book) book.journal ≡ run_in config symbol book.journal
closed_book_run config venue seats books symbol book is of_config closed within at =
    run_of_setting config symbol (book_setting book) book.journal is within
    (closed_setting seats books symbol book closed at ∙ of_config.settings symbol within)

-- ---- on one thread

abbrev plain_journal : Option BookView → List Event
plain_journal book = (shown_by_book (λ book. book.journal) book_setting reports_at book).journal

plain_setting : (markets : ℕ) (books : List BookView) (ticks : List ℕ) (symbol : ℕ)
    → map (λ book. book.tick) books ≡ ticks → AllByRecursion (IsNewBook markets) books → symbol < length ticks
    → first_number (slice_get (map (λ book. book_setting book ∷ []) books) symbol)
    ≡ setting_of markets (slice_index ticks symbol)
plain_setting markets books [] symbol same new within = absurd (omega arith)
plain_setting markets [] (tick ∷ ticks) symbol same new within = absurd (cc)
plain_setting markets (book ∷ books) (tick ∷ ticks) zero same new within =
    let so : book.tick ≡ tick = (cc) in λ k. setting_of (new.0.markets_are k) (so k)
plain_setting markets (book ∷ books) (tick ∷ ticks) (suc symbol) same new within =
    let rest : map (λ (book : BookView). book.tick) books ≡ ticks = (cc) in
    plain_setting markets books ticks symbol rest new.1 (omega arith)

-- new books with the markets and the ticks of a config are a venue of it
pub plain_of_config : (config : Config) (venue : PlainState BookView) → IsConfig config
    → plain_setup (λ book. book.limit) venue ≡ setup_of config → map (λ book. book.tick) venue.books ≡ config.ticks
    → All (IsNewBook (length config.markets)) venue.books → IsVenueOf config (plain_book_mark venue)
plain_of_config config venue is setup ticks new = record {
  setup = setup;
  settings = λ symbol within.
      plain_setting (length config.markets) venue.books config.ticks symbol ticks
      (recursion_from_All (IsNewBook (length config.markets)) venue.books new) (omega (arith, is.tick_each));
}

-- a book shows the reports that its journal makes
pub book_shows_run : (config : Config) (venue : PlainState BookView) (symbol : ℕ) → IsConfig config
    → IsVenueOf config (plain_book_mark venue) → symbol < length config.symbols
    → (plain_book_view venue symbol).reports ≡ (run_in config symbol (plain_book_view venue symbol).journal).reports
book_shows_run config venue symbol is of_config within =
    book_shows_reports (λ (book : BookView). book.journal) (λ (book : BookView). book.limit) book_setting reports_at venue symbol
    (is_symbol config (plain_book_mark venue).setup symbol (venue_is_set_up config (plain_book_mark venue) is of_config) within)
    ∙ (venue_is_floor config (plain_book_mark venue) is of_config).reports symbol (plain_book_view venue symbol).journal within

-- the book at a symbol has the state that its journal makes
state_is_at : (books : List BookView) (symbol : ℕ) → symbol < length books
    → state_of_book (slice_get books symbol)
    ≡ (run_at (first_number (slice_get (map (λ book. book_setting book ∷ []) books) symbol))
    (plain_journal (slice_get books symbol))).state
state_is_at [] symbol within = absurd (omega arith)
state_is_at (book ∷ books) zero within = refl
state_is_at (book ∷ books) (suc symbol) within = state_is_at books symbol (omega arith)

pub book_state_run : (config : Config) (venue : PlainState BookView) (symbol : ℕ) → IsConfig config
    → IsVenueOf config (plain_book_mark venue) → symbol < length config.symbols
    → plain_book_state venue symbol ≡ (run_in config symbol (plain_book_view venue symbol).journal).state
book_state_run config venue symbol is of_config within =
    let set_up = venue_is_set_up config (plain_book_mark venue) is of_config in
    let limits = is_symbol config (plain_book_mark venue).setup symbol set_up within in
    let count = length-map venue.books (λ (book : BookView). book.limit) in
    state_is_at venue.books symbol (omega arith)
    ∙ ap (λ (run : Run). run.state)
    (run_of_setting config symbol (setting_in (plain_book_mark venue) symbol) (plain_book_view venue symbol).journal is within
    (of_config.settings symbol within))

book_is_at : (books : List BookView) (symbol : ℕ) (book : BookView) → slice_get books symbol ≡ Some book
    → book_setting book ≡ first_number (slice_get (map (λ book. book_setting book ∷ []) books) symbol)
book_is_at [] symbol book at = absurd (cc)
book_is_at (b ∷ books) zero book at = let is : b ≡ book = (cc) in ap book_setting (sym is)
book_is_at (b ∷ books) (suc symbol) book at = book_is_at books symbol book at

-- a book of the venue makes of its journal what the config does
pub plain_book_run : (config : Config) (venue : PlainState BookView) (symbol : ℕ) (book : BookView) → IsConfig config
    → IsVenueOf config (plain_book_mark venue) → symbol < length config.symbols → slice_get venue.books symbol ≡ Some book
    → run_at (book_setting book) book.journal ≡ run_in config symbol book.journal
plain_book_run config venue symbol book is of_config within at =
    run_of_setting config symbol (book_setting book) book.journal is within
    (book_is_at venue.books symbol book at ∙ of_config.settings symbol within)

-- ---- before the first event

seen_at_first : (seats : List SeatState) (symbol : ℕ) → AllByRecursion IsFirstSeat seats
    → (shown_by_seat reports_at (slice_get seats symbol)).journal ≡ []
seen_at_first [] symbol first = refl
seen_at_first (seat ∷ seats) zero first = first.0.seen
seen_at_first (seat ∷ seats) (suc symbol) first = seen_at_first seats symbol first.1

-- first seats show no event
pub first_seats_show_none : (seats : List SeatState) (symbol : ℕ) → All IsFirstSeat seats → (book_seen seats symbol).journal ≡ []
first_seats_show_none seats symbol first = seen_at_first seats symbol (recursion_from_All IsFirstSeat seats first)

shown_at_first : (markets : ℕ) (books : List BookView) (symbol : ℕ) → AllByRecursion (IsNewBook markets) books
    → plain_journal (slice_get books symbol) ≡ []
shown_at_first markets [] symbol new = refl
shown_at_first markets (book ∷ books) zero new = new.0.empty
shown_at_first markets (book ∷ books) (suc symbol) new = shown_at_first markets books symbol new.1

-- new books show none
pub new_books_show_none : (markets : ℕ) (venue : PlainState BookView) (symbol : ℕ) → All (IsNewBook markets) venue.books
    → (plain_book_view venue symbol).journal ≡ []
new_books_show_none markets venue symbol new =
    shown_at_first markets venue.books symbol (recursion_from_All (IsNewBook markets) venue.books new)
