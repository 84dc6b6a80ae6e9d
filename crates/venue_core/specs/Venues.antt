-- A venue, and the books that it is made of.
use Rattle.std.specs.Prelude.{◌≡◌, ℕ, Bool, true, List, map}
use Rattle.turn_gate.specs.Seats.{GateId, SeatState}
use Rattle.venue_words.specs.Conditions.{fits_limits}
use Rattle.venue_words.specs.Floors.{Setup, is_configured}
use Rattle.venue_words.specs.declared.command.Command.{Command}

-- a venue for many threads: how many members and markets it has, the tick of each symbol, and the gates of its books,
-- one for each symbol
pub record VenueId : Type 0 where
  pub members : ℕ
  pub markets : ℕ
  pub ticks : List ℕ
  pub gates : List GateId

abbrev pub venue_id : ℕ → ℕ → List ℕ → List GateId → VenueId
venue_id members markets ticks gates = record { members = members; markets = markets; ticks = ticks; gates = gates }

-- what it is set up with
abbrev pub setup_in : VenueId → Setup
setup_in venue = record {
  members = venue.members;
  markets = venue.markets;
  limits = map (λ gate. gate.limit) venue.gates;
  ticks = venue.ticks;
}

-- a venue for one thread: how many members and markets it has, the tick of each symbol, and its books, one for each
-- symbol
pub record PlainState (V : Type 0) : Type 0 where
  pub members : ℕ
  pub markets : ℕ
  pub ticks : List ℕ
  pub books : List V

abbrev pub plain_state : {V : Type 0} → ℕ → ℕ → List ℕ → List V → PlainState V
plain_state members markets ticks books = record { members = members; markets = markets; ticks = ticks; books = books }

-- what it is set up with
abbrev pub plain_setup : {V : Type 0} → (V → ℕ) → PlainState V → Setup
plain_setup limit_of plain = record {
  members = plain.members;
  markets = plain.markets;
  limits = map limit_of plain.books;
  ticks = plain.ticks;
}

-- the seats are of the gates of the venue, one for each symbol
abbrev pub AreSeatsOf : VenueId → List SeatState → Type 0
AreSeatsOf venue seats = map (λ seat. seat.gate) seats ≡ venue.gates

-- a book of this setting takes each command of configured things that keeps to the limits on prices and identifiers
abbrev pub TakesConfigured : (ℕ → Command → Bool) → Setup → ℕ → Type 0
TakesConfigured takes setup setting =
    (command : Command)
    → is_configured setup command ≡ true → fits_limits command ≡ true → takes setting command ≡ true
