-- The seat and the gate of a symbol.
use Rattle.std.proofs.Common.{◌≡◌, ℕ, ◌<◌, List, map, length, get_or, sym, ap, ◌∙◌, arith, Some, slice_get}
use Rattle.std.proofs.lemmas.List.{length-map}
use Rattle.turn_gate.specs.Seats.{GateId, SeatState}
use Rattle.venue_core.proofs.Places.{get_read, get_map}

-- a symbol of the limits is one of the gates
pub symbol_within : {A : Type 0} (f : A → ℕ) (xs : List A) (i : ℕ) → i < length (map f xs) → i < length xs
symbol_within f xs i lt = let h = length-map xs f in omega arith

-- there are as many seats as gates
pub seat_count : (gates : List GateId) (seats : List SeatState) → map (λ seat. seat.gate) seats ≡ gates → length seats ≡ length gates
seat_count gates seats are = sym (length-map seats (λ (seat : SeatState). seat.gate)) ∙ ap length are

-- a symbol of the gates is one of the seats
pub seat_within : (gates : List GateId) (seats : List SeatState) (i : ℕ) → map (λ seat. seat.gate) seats ≡ gates → i < length gates → i < length seats
seat_within gates seats i are lt = let e = seat_count gates seats are in omega arith

-- the seat that was found is one of the gate that was found
pub seat_and_gate : (gates items : List GateId) (seats list : List SeatState) (i : ℕ) (seat : SeatState) (gate : GateId)
    → items ≡ gates → list ≡ seats → map (λ seat. seat.gate) seats ≡ gates → i < length gates
    → seat ≡ get_or list i seat → gate ≡ get_or items i gate
    → (slice_get seats i ≡ Some seat) × (seat.gate ≡ gate)
seat_and_gate gates items seats list i seat gate items_are list_is are lt seat_at gate_at =
    let there = get_read seats i seat (seat_within gates seats i are lt) (seat_at ∙ ap (λ (ps : List SeatState). get_or ps i seat) list_is) in
    let open_gate = get_read gates i gate lt (gate_at ∙ ap (λ (gs : List GateId). get_or gs i gate) items_are) in
    let its = ap (λ (gs : List GateId). slice_get gs i) (sym are) ∙ get_map (λ (seat : SeatState). seat.gate) seats i seat there in
    (there, (cc))
