-- What was listed, under the status that a run ends with.
use Rattle.std.proofs.Common.{◌≡◌, ◌≢◌, ◌⊎◌, ℕ, List, length, Option, Ok, Err, refl, sym, ap, ◌∙◌, subst, arith, inl, inr}
use Rattle.std.proofs.lemmas.List.{take_all}
use Rattle.std.specs.Io.KnownBytes.{Appends}
use Rattle.io_edge.specs.Grows.{AppendsPrefix}
use Rattle.venue_words.specs.Floors.{setup_of}
use Rattle.venue_words.specs.declared.config.Config.{Config}
use Rattle.turn_gate.specs.Rule.{whole}
use Rattle.turn_gate.specs.Seats.{SeatState}
use Rattle.venue_core.specs.Venues.{VenueId, setup_in}
use Rattle.serve_core.specs.declared.status.ServeStatus.{ServeStatus}
use Rattle.serve_core.specs.declared.status.ServeStatus.TheVariants.{Done, BadWords, BadLine, LimitLine, ReadFault, WriteFault, NoMemory, Full, ListenFault}
use Rattle.serve_core.specs.Statuses.{exit_code, exit_of_quotes, status_of_setup}
use Rattle.serve_core.specs.declared.quotes.QuoteEnd.{QuoteEnd}
use Rattle.serve_core.specs.declared.quotes.QuoteEnd.TheVariants as quotes
use Rattle.serve_core.specs.declared.setup.SetupFault.{SetupFault}
use Rattle.serve_core.specs.declared.setup.SetupFault.TheVariants as setup
use Rattle.venue_server.specs.Asking.{IsRefusedAs}
use Rattle.venue_server.specs.declared.asking.Setup.{Setup}
use Rattle.venue_server.specs.Listed.{Lists, ListsBooks, ListsSeats, ListsVenue, listing_of}
use Rattle.venue_server.specs.Seating.{HasSeats}

-- what was appended is a beginning of itself
prefix_all : (told told' : Option (List ℕ)) (bytes : List ℕ) → Appends told told' bytes → AppendsPrefix told told' bytes
prefix_all told told' bytes grew =
    (length bytes, subst (Appends told told') (sym (take_all (length bytes) bytes (omega arith))) grew)

begun : (config : Config) (seats : List SeatState) (told told' : Option (List ℕ)) → ListsBooks config seats (Appends told told')
    → ListsBooks config seats (AppendsPrefix told told')
begun config seats told told' lists = record {
  books = lists.books;
  of_seats = lists.of_seats;
  grew = prefix_all told told' (listing_of config lists.books) lists.grew;
}

abbrev Begun : Config → List SeatState → Option (List ℕ) → Option (List ℕ) → Type 0
Begun config seats told told' = (told' ≡ told) ⊎ ListsBooks config seats (AppendsPrefix told told')

begun_at : (config : Config) (seats : List SeatState) (status : ServeStatus) (told told' : Option (List ℕ))
    → ListsSeats config seats status told told' → Begun config seats told told'
begun_at config seats Done told told' lists = inr (begun config seats told told' lists)
begun_at config seats BadWords told told' lists = lists
begun_at config seats (BadLine line cause) told told' lists = lists
begun_at config seats (LimitLine line which) told told' lists = lists
begun_at config seats ReadFault told told' lists = lists
begun_at config seats WriteFault told told' lists = lists
begun_at config seats NoMemory told told' lists = lists
begun_at config seats (Full symbol) told told' lists = lists
begun_at config seats ListenFault told told' lists = lists

module _ (config : Config) (venue : VenueId) (seats : List SeatState) (setup : setup_in venue ≡ setup_of config) (has : HasSeats venue whole seats) where
  -- the seats are those of a venue of the config
  of_venue : (grew_by : List ℕ → Type 0) → ListsBooks config seats grew_by → ListsVenue config grew_by
  of_venue grew_by lists = record { venue = venue; setup = setup; seats = seats; has = has; lists = lists }

  begun_of : (told told' : Option (List ℕ)) → Begun config seats told told' → (told' ≡ told) ⊎ ListsVenue config (AppendsPrefix told told')
  begun_of told told' (inl none) = inl none
  begun_of told told' (inr lists) = inr (of_venue (AppendsPrefix told told') lists)

  -- another status, which is `Done` only where this one is
  pub lists_as : (listed status : ServeStatus) (told told' : Option (List ℕ)) → (status ≡ Done → listed ≡ Done)
      → ListsSeats config seats listed told told' → Lists config status told told'
  lists_as listed Done told told' done lists =
      of_venue (Appends told told') (subst (λ (s : ServeStatus). ListsSeats config seats s told told') (done refl) lists)
  lists_as listed BadWords told told' done lists = begun_of told told' (begun_at config seats listed told told' lists)
  lists_as listed (BadLine line cause) told told' done lists = begun_of told told' (begun_at config seats listed told told' lists)
  lists_as listed (LimitLine line which) told told' done lists = begun_of told told' (begun_at config seats listed told told' lists)
  lists_as listed ReadFault told told' done lists = begun_of told told' (begun_at config seats listed told told' lists)
  lists_as listed WriteFault told told' done lists = begun_of told told' (begun_at config seats listed told told' lists)
  lists_as listed NoMemory told told' done lists = begun_of told told' (begun_at config seats listed told told' lists)
  lists_as listed (Full symbol) told told' done lists = begun_of told told' (begun_at config seats listed told told' lists)
  lists_as listed ListenFault told told' done lists = begun_of told told' (begun_at config seats listed told told' lists)

-- ---- exits

pub only_write_fault : (status : ServeStatus) → exit_code status ≡ 6 → status ≡ WriteFault
only_write_fault Done e = absurd (omega (arith, e))
only_write_fault BadWords e = absurd (omega (arith, e))
only_write_fault (BadLine line cause) e = absurd (omega (arith, e))
only_write_fault (LimitLine line which) e = absurd (omega (arith, e))
only_write_fault ReadFault e = absurd (omega (arith, e))
only_write_fault WriteFault e = refl
only_write_fault NoMemory e = absurd (omega (arith, e))
only_write_fault (Full symbol) e = absurd (omega (arith, e))
only_write_fault ListenFault e = absurd (omega (arith, e))

pub only_bad_words : (status : ServeStatus) → exit_code status ≡ 2 → status ≡ BadWords
only_bad_words Done e = absurd (omega (arith, e))
only_bad_words BadWords e = refl
only_bad_words (BadLine line cause) e = absurd (omega (arith, e))
only_bad_words (LimitLine line which) e = absurd (omega (arith, e))
only_bad_words ReadFault e = absurd (omega (arith, e))
only_bad_words WriteFault e = absurd (omega (arith, e))
only_bad_words NoMemory e = absurd (omega (arith, e))
only_bad_words (Full symbol) e = absurd (omega (arith, e))
only_bad_words ListenFault e = absurd (omega (arith, e))

-- quotes end with no bad words
pub quotes_are_no_words : (end : QuoteEnd) (status : ServeStatus) → exit_code status ≡ exit_of_quotes end → status ≢ BadWords
quotes_are_no_words quotes.Done status same e = absurd (omega (arith, same, ap exit_code e))
quotes_are_no_words (quotes.BadLine line cause) status same e = absurd (omega (arith, same, ap exit_code e))
quotes_are_no_words (quotes.LimitLine line which) status same e = absurd (omega (arith, same, ap exit_code e))
quotes_are_no_words (quotes.Full symbol found) status same e = absurd (omega (arith, same, ap exit_code e))
quotes_are_no_words quotes.ReadFault status same e = absurd (omega (arith, same, ap exit_code e))
quotes_are_no_words quotes.NoMemory status same e = absurd (omega (arith, same, ap exit_code e))

pub setup_is_not_done : (fault : SetupFault) → status_of_setup fault ≢ Done
setup_is_not_done setup.BadWords e = absurd (cc)
setup_is_not_done (setup.BadLine line cause) e = absurd (cc)
setup_is_not_done (setup.LimitLine line which) e = absurd (cc)
setup_is_not_done setup.ReadFault e = absurd (cc)
setup_is_not_done setup.NoMemory e = absurd (cc)

pub setup_is_no_write_fault : (fault : SetupFault) → exit_code (status_of_setup fault) ≡ 6 → ⊥
setup_is_no_write_fault setup.BadWords e = absurd (omega (arith, e))
setup_is_no_write_fault (setup.BadLine line cause) e = absurd (omega (arith, e))
setup_is_no_write_fault (setup.LimitLine line which) e = absurd (omega (arith, e))
setup_is_no_write_fault setup.ReadFault e = absurd (omega (arith, e))
setup_is_no_write_fault setup.NoMemory e = absurd (omega (arith, e))

pub only_setup_words : (fault : SetupFault) → exit_code (status_of_setup fault) ≡ 2 → fault ≡ setup.BadWords
only_setup_words setup.BadWords e = refl
only_setup_words (setup.BadLine line cause) e = absurd (omega (arith, e))
only_setup_words (setup.LimitLine line which) e = absurd (omega (arith, e))
only_setup_words setup.ReadFault e = absurd (omega (arith, e))
only_setup_words setup.NoMemory e = absurd (omega (arith, e))

-- the exit of bad words, or of want of memory
pub refused_exit : (fault : SetupFault) (exit : ℕ) → exit ≡ exit_code (status_of_setup fault) → IsRefusedAs setup.BadWords (Err fault)
    → (exit ≡ 2) ⊎ (exit ≡ 7)
refused_exit fault exit is (inl e) =
    let bad : fault ≡ setup.BadWords = cc in inl (is ∙ ap (λ (f : SetupFault). exit_code (status_of_setup f)) bad)
refused_exit fault exit is (inr e) =
    let memory : fault ≡ setup.NoMemory = cc in inr (is ∙ ap (λ (f : SetupFault). exit_code (status_of_setup f)) memory)

pub not_refused : (ready : Setup) → IsRefusedAs setup.BadWords (Ok ready) → ⊥
not_refused ready (inl e) = absurd (cc)
not_refused ready (inr e) = absurd (cc)
