-- Seats of feeds that are joined again.
use Rattle.std.specs.Prelude.{◌≡◌, ℕ, ◌+◌, ◌<◌, ◌≤◌, List, [], ◌∷◌, ◌++◌, length, map, sum_by, slice_get, slice_index, Option, Some, None}
use Rattle.std.specs.List.{All}
use Rattle.venue_words.specs.Floors.{Setup}
use Rattle.venue_words.specs.Journals.{IfFull}
use Rattle.venue_words.specs.declared.command.Event.{Event}
use Rattle.venue_words.specs.declared.refusal.FloorRefusal.{FloorRefusal}
use Rattle.venue_words.specs.declared.refusal.FloorRefusal.TheVariants.{Full}
use Rattle.eager_meaning.specs.Interleaving.{Timed}
use Rattle.turn_gate.specs.Numbers.{IncreasesWithin, times}
use Rattle.turn_gate.specs.Seats.{SeatState}
use Rattle.venue_core.specs.Joining.{HaveParts}
use Rattle.venue_core.specs.Venues.{VenueId, AreSeatsOf}
use Rattle.feed_work.specs.Feeds.{Asked, commands_at}
use Rattle.feeds_core.specs.Books.{count_at}
use Rattle.feed_work.specs.Working.{Stand}

-- a seat that has seen nothing and has no events, with so many parts of its gate
pub record IsIdle (parts : ℕ) (seat : SeatState) : Type 0 where
  pub seen : seat.seen ≡ []
  pub mine : seat.mine ≡ []
  pub part : seat.part ≡ parts

-- idle seats of a venue
pub record AreIdleSeats (venue : VenueId) (parts : ℕ) (seats : List SeatState) : Type 0 where
  pub are : AreSeatsOf venue seats
  pub idle : All (IsIdle parts) seats

-- ---- one feed

-- the own events of a seat are these commands of the feed
pub record HasTaken (feed : ℕ) (seen : List Event) (mine : List ℕ) (commands : List Timed) : Type 0 where
  pub stand : Stand feed seen mine commands
  pub rise : IncreasesWithin 0 (length seen) mine

-- at every symbol they are those of the feed for it
abbrev pub HaveTaken : ℕ → List SeatState → List Asked → Type 0
HaveTaken feed seats commands =
    (symbol : ℕ) (seat : SeatState) → slice_get seats symbol ≡ Some seat
    → HasTaken feed seat.seen seat.mine (commands_at symbol commands)

-- the feed stopped before a command, and where that found its symbol's journal full, the seat has seen as much as the limit
pub record HaveStopped (setup : Setup) (feed : ℕ) (seats : List SeatState) (commands : List Asked) (why : FloorRefusal) : Type 0 where
  pub first : List Asked
  pub next : Asked
  pub left : List Asked
  pub commands_are : commands ≡ first ++ next ∷ left
  pub taken : HaveTaken feed seats first
  pub full : IfFull (λ found. (seat : SeatState) × (slice_get seats next.0 ≡ Some seat)
      × (found ≡ length seat.seen) × (found ≡ slice_index setup.limits next.0)) why

abbrev pub HaveWorked : Setup → ℕ → List SeatState → List Asked → Option FloorRefusal → Type 0
HaveWorked setup feed seats commands None = HaveTaken feed seats commands
HaveWorked setup feed seats commands (Some why) = HaveStopped setup feed seats commands why

-- the seats that a feed was worked through, with why it stopped
pub record Outcome : Type 0 where
  pub seats : List SeatState
  pub refused : Option FloorRefusal

abbrev pub outcome_of : List SeatState → Option FloorRefusal → Outcome
outcome_of seats refused = record { seats = seats; refused = refused }

-- seats of the venue, each with one part
pub record AreOneParts (venue : VenueId) (outcome : Outcome) : Type 0 where
  pub are : AreSeatsOf venue outcome.seats
  pub parts : HaveParts 1 outcome.seats

-- what came of feeds, the first of this number
abbrev pub AllWorked : Setup → ℕ → List (List Asked) → List Outcome → Type 0
AllWorked setup feed [] [] = Unit {0}
AllWorked setup feed [] (outcome ∷ outcomes) = ⊥
AllWorked setup feed (commands ∷ feeds) [] = ⊥
AllWorked setup feed (commands ∷ feeds) (outcome ∷ outcomes) =
    HaveWorked setup feed outcome.seats commands outcome.refused × AllWorked setup (feed + 1) feeds outcomes

-- ---- all feeds

-- the events of a journal with these numbers are these commands, feed by feed
abbrev pub AreIn : ℕ → List Event → List (List ℕ) → List (List Timed) → Type 0
AreIn feed journal [] [] = Unit {0}
AreIn feed journal [] (commands ∷ feeds) = ⊥
AreIn feed journal (numbers ∷ others) [] = ⊥
AreIn feed journal (numbers ∷ others) (commands ∷ feeds) =
    HasTaken feed journal numbers commands × AreIn (feed + 1) journal others feeds

-- the own events of a seat are these commands of the feeds from 1 on
pub record Gathers (seat : SeatState) (feeds : List (List Timed)) : Type 0 where
  pub numbers : List (List ℕ)
  pub are_in : AreIn 1 seat.seen numbers feeds
  pub once : (n : ℕ) → times n seat.mine ≡ sum_by (times n) numbers
  pub count : length seat.mine ≡ sum_by (λ numbers. length numbers) numbers

-- at a symbol a command was left out, though the seat has seen as many events as the limit allows
pub record LacksOne (setup : Setup) (taken feeds : List (List Asked)) (seats : List SeatState) (found : ℕ) : Type 0 where
  pub symbol : ℕ
  pub seat : SeatState
  pub at : slice_get seats symbol ≡ Some seat
  pub limit : found ≡ slice_index setup.limits symbol
  pub seen : found ≤ length seat.seen
  pub lacks : count_at symbol taken < count_at symbol feeds

-- joined seats have taken commands of the feeds: all of them, or where one was refused a part of them
pub record Collects (setup : Setup) (feeds : List (List Asked)) (seats : List SeatState) (refused : Option FloorRefusal) : Type 0 where
  pub taken : List (List Asked)
  pub size : length taken ≡ length feeds
  pub gathers : (symbol : ℕ) (seat : SeatState) → slice_get seats symbol ≡ Some seat
      → Gathers seat (map (commands_at symbol) taken)
  pub whole : refused ≡ None → taken ≡ feeds
  pub within : (symbol : ℕ) → count_at symbol taken ≤ count_at symbol feeds
  pub full : (found : ℕ) → refused ≡ Some (Full found) → LacksOne setup taken feeds seats found
