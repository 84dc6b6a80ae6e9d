-- The books that a closed venue handed back.
use Rattle.std.proofs.Common.{◌≡◌, ℕ, List, [], ◌∷◌, map, refl, ap, ◌∙◌}
use Rattle.turn_gate.specs.Seats.{GateId, SeatState}
use Rattle.symbol_book.specs.Book.{BookView}
use Rattle.venue_core.specs.Venues.{VenueId, AreSeatsOf, setup_in}
use Rattle.venue_server.specs.Listed.{AreBooksOf}

gate_limits : (seats : List SeatState) (books : List BookView) → AreBooksOf seats books
    → map (λ book. book.limit) books ≡ map (λ (gate : GateId). gate.limit) (map (λ (seat : SeatState). seat.gate) seats)
gate_limits [] [] all = refl
gate_limits [] (book ∷ books) all = absurd all
gate_limits (seat ∷ seats) [] all = absurd all
gate_limits (seat ∷ seats) (book ∷ books) all =
    ap (λ (n : ℕ). n ∷ map (λ (book : BookView). book.limit) books) all.0.limit
    ∙ ap (λ (ns : List ℕ). seat.gate.limit ∷ ns) (gate_limits seats books all.1)

-- the books have the limits of the venue
pub limits_of : (venue : VenueId) (seats : List SeatState) (books : List BookView) → AreSeatsOf venue seats → AreBooksOf seats books
    → map (λ book. book.limit) books ≡ (setup_in venue).limits
limits_of venue seats books are closed =
    gate_limits seats books closed ∙ ap (map (λ (gate : GateId). gate.limit)) are
