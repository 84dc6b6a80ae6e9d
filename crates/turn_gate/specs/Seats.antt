-- A gate and its seats, as contracts see them.
use Rattle.std.specs.Prelude.{◌≡◌, ℕ, ◌<◌, false, List, [], ◌∷◌, ◌++◌, None}
use Rattle.atomic_table.specs.Seated.{TableId}
use Rattle.venue_words.specs.declared.command.Event.{Event}
use Rattle.turn_gate.specs.declared.view.SeatView.{SeatView}
use Rattle.turn_gate.specs.Rule.{spent_seat}

-- which gate it is, with the limit and the setting of its value
pub record GateId : Type 0 where
  pub table : TableId
  pub limit : ℕ
  pub setting : ℕ

-- a seat: its gate, how many turns it passed, the turn of the gate by whose end it had seen what it has seen, counted from 1,
-- the beginning of the history that it has seen, the numbers there of its own events and of those of the seats that were
-- joined into it, and its part of the gate in 65,536ths
pub record SeatState : Type 0 where
  pub gate : GateId
  pub turns : ℕ
  pub last_turn : ℕ
  pub seen : List Event
  pub mine : List ℕ
  pub part : ℕ

abbrev pub gate_id : TableId → ℕ → ℕ → GateId
gate_id table limit setting = record { table = table; limit = limit; setting = setting }

abbrev pub seat_state : TableId → SeatView → SeatState
seat_state table seat = record {
  gate = gate_id table seat.limit seat.setting;
  turns = seat.turns;
  last_turn = seat.last_turn;
  seen = seat.seen;
  mine = seat.mine;
  part = seat.part;
}

-- the one view of a seat
abbrev pub seat_state_in : TableId → List SeatView → SeatState
seat_state_in table [] = seat_state table spent_seat
seat_state_in table (seat ∷ rest) = seat_state table seat

-- a seat between two calls
pub record IsAtRest (seat : SeatView) : Type 0 where
  pub ticket : seat.ticket ≡ None
  pub history : seat.history ≡ None
  pub opening : seat.opening ≡ false
  pub part : 0 < seat.part

pub record IsOneSeat (seats : List SeatView) : Type 0 where
  pub seat : SeatView
  pub only : seats ≡ seat ∷ []
  pub at_rest : IsAtRest seat

-- the history begins with all that had been seen, and ends with the event
abbrev pub Extends : List Event → List Event → Event → Type 0
Extends before after event = (between : List Event) × (after ≡ (before ++ between) ++ event ∷ [])
