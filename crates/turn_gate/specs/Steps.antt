-- What each step tells the seat that takes it.
use Rattle.std.specs.Prelude.{◌≡◌, ℕ, ◌+◌, ◌-◌, ◌≤◌, max, false, if◌then◌else◌, nat_lt, List, [], ◌∷◌, ◌++◌, length, Option, None, Some}
use Rattle.atomic_table.specs.Table.{Me, Step}
use Rattle.venue_words.specs.Journals.{StartsWith}
use Rattle.venue_words.specs.declared.command.Event.{Event}
use Rattle.turn_gate.specs.declared.view.SeatView.{SeatView}
use Rattle.turn_gate.specs.Numbers.{IncreasesWithin, merge_of}
use Rattle.turn_gate.specs.Rule.{spent_seat}

-- a seat's view, and what it took out of the slot
abbrev pub SeatAndSlot : Type 0 → Type 0
SeatAndSlot V = Me (Option V) SeatView

-- the seat has recorded the last event of the history
abbrev pub with_event : List Event → SeatView → SeatView
with_event history seat = record seat {
  history = Some history;
  seen = history;
  mine = seat.mine ++ length history ∷ [];
}

-- the seat has passed this turn of the gate, in which the history was this one
abbrev pub after_turn : ℕ → List Event → SeatView → SeatView
after_turn turn history seat = record seat {
  seen = history;
  turns = seat.turns + 1;
  last_turn = turn;
  ticket = None;
  history = None;
}

module _ {V : Type 0} where
  -- the first seat has taken the empty slot
  abbrev pub TakesEmptySlot : Step (Option V) → SeatAndSlot V → ℕ → SeatAndSlot V → Type 0
  TakesEmptySlot step before found after = after ≡ (record before.0 { opening = false }, (0, None) ∷ [])

  -- the number found is the seat's ticket where the word held what was expected, and else nothing has changed
  abbrev pub DrawsTicket : Step (Option V) → SeatAndSlot V → ℕ → SeatAndSlot V → Type 0
  DrawsTicket step before found after =
      (found ≡ step.first → after ≡ (record before.0 { ticket = Some found }, before.1))
      × ((¬ (found ≡ step.first)) → after ≡ before)

  -- the seat has the turn and the value, whose journal is the history and begins with all that the seat had seen
  pub record HasTurn (journal_of : V → List Event) (limit_of setting_of : V → ℕ) (before after : SeatAndSlot V) : Type 0 where
    pub value : V
    pub after_is : after ≡ (record before.0 { history = Some (journal_of value) }, (0, Some value) ∷ [])
    pub limit : limit_of value ≡ before.0.limit
    pub setting : setting_of value ≡ before.0.setting
    pub seen : StartsWith (journal_of value) before.0.seen
    pub room : length (journal_of value) ≤ limit_of value
    pub later : (ticket : ℕ) → before.0.ticket ≡ Some ticket → before.0.last_turn ≤ ticket

  -- where the ticket that is served is the seat's own, it has the turn, and else nothing has changed
  abbrev pub TakesTurn : (V → List Event) → (V → ℕ) → (V → ℕ)
      → Step (Option V) → SeatAndSlot V → ℕ → SeatAndSlot V → Type 0
  TakesTurn journal limit setting step before found after =
      (before.0.ticket ≡ Some found → HasTurn journal limit setting before after)
      × ((¬ (before.0.ticket ≡ Some found)) → after ≡ before)

  -- the journal of the value that the seat has taken
  abbrev pub journal_held : (V → List Event) → List (ℕ × Option V) → List Event
  journal_held journal ((slot, Some value) ∷ rest) = journal value
  journal_held journal _ = []

  -- the value's journal is the history now, and its last event is the seat's own
  abbrev pub RecordsEvent : (V → List Event) → Step (Option V) → SeatAndSlot V → ℕ → SeatAndSlot V → Type 0
  RecordsEvent journal step before found after = after ≡ (with_event (journal_held journal before.1) before.0, before.1)

  -- the seat has seen the value's journal, and the value is in its slot; the next ticket is the number of the turn
  abbrev pub PassesTurn : (V → List Event) → Step (Option V) → SeatAndSlot V → ℕ → SeatAndSlot V → Type 0
  PassesTurn journal step before found after = after ≡ (after_turn step.first (journal_held journal before.1) before.0, [])

  -- nothing has changed for the seat
  abbrev pub MarksSleepers : Step (Option V) → SeatAndSlot V → ℕ → SeatAndSlot V → Type 0
  MarksSleepers step before found after = after ≡ before

  -- what the seat has seen begins with what it was told, and its own numbers increase there
  abbrev pub ComparesSeen : Step (Option V) → SeatAndSlot V → ℕ → SeatAndSlot V → Type 0
  ComparesSeen step before found after =
      (after ≡ before) × StartsWith before.0.seen before.0.told × IncreasesWithin 0 (length before.0.seen) before.0.mine

-- the longer of two lists
abbrev pub longer_of : List Event → List Event → List Event
longer_of xs ys = if nat_lt (length xs) (length ys) then ys else xs

-- of two seats, what the one has seen that saw the later turn, and what the other has seen
abbrev pub later_seen : SeatView → SeatView → List Event
later_seen seat other = if nat_lt seat.last_turn other.last_turn then other.seen else seat.seen

abbrev pub earlier_seen : SeatView → SeatView → List Event
earlier_seen seat other = if nat_lt seat.last_turn other.last_turn then seat.seen else other.seen

-- a seat after one part was split off
abbrev pub without_part : SeatView → SeatView
without_part seat = record seat { part = seat.part - 1 }

-- the seat that was split off: it has seen the same
abbrev pub split_off : SeatView → SeatView
split_off seat = record spent_seat {
  limit = seat.limit;
  setting = seat.setting;
  last_turn = seat.last_turn;
  seen = seat.seen;
  part = 1;
}

-- a seat with another one joined into it
abbrev pub joined_seat : SeatView → SeatView → SeatView
joined_seat seat other = record seat {
  joined_turns = seat.joined_turns + (other.turns + other.joined_turns);
  last_turn = max seat.last_turn other.last_turn;
  seen = later_seen seat other;
  told = earlier_seen seat other;
  mine = merge_of seat.mine other.mine;
  part = seat.part + other.part;
}
