-- What the parts of a turn need, and what a turn leaves.
use Rattle.std.specs.Prelude.{◌≡◌, ℕ, ◌+◌, ◌^◌, ◌<◌, ◌≤◌, false, ℤ, List, [], ◌∷◌, ◌++◌, length, Option, Some, IfSome}
use Rattle.std.specs.List.{range_with_len}
use Rattle.venue_words.specs.Floors.{CostsNothing}
use Rattle.venue_words.specs.Journals.{StartsWith, event, IfFull}
use Rattle.venue_words.specs.declared.command.Command.{Command}
use Rattle.venue_words.specs.declared.command.Event.{Event}
use Rattle.venue_words.specs.declared.refusal.FloorRefusal.{FloorRefusal}
use Rattle.turn_gate.specs.declared.view.SeatView.{SeatView}
use Rattle.turn_gate.specs.Steps.{SeatAndSlot, after_turn, with_event}

module _ {V : Type 0} where
  -- the seat has the turn, and the value in the slot that it took has one event more than the history
  pub record HoldsNewEvent (journal_of : V → List Event) (limit_of : V → ℕ) (seat : SeatAndSlot V) : Type 0 where
    pub history : List Event
    pub last : Event
    pub value : V
    pub has_turn : seat.0.history ≡ Some history
    pub opening : seat.0.opening ≡ false
    pub slot : seat.1 ≡ (0, Some value) ∷ []
    pub grown : journal_of value ≡ history ++ last ∷ []
    pub part : 0 < seat.0.part
    pub limit : limit_of value ≡ seat.0.limit
    pub room : length history + 1 ≤ limit_of value
    pub small : length history + 1 < 2 ^ 64

  -- the seat has the turn, and the value in the slot that it took has the history for its journal
  pub record HoldsHistory (journal_of : V → List Event) (limit_of setting_of : V → ℕ) (turn : ℕ) (seat : SeatAndSlot V) : Type 0 where
    pub value : V
    pub ticket : seat.0.ticket ≡ Some turn
    pub has_turn : seat.0.history ≡ Some (journal_of value)
    pub slot : seat.1 ≡ (0, Some value) ∷ []
    pub part : 0 < seat.0.part
    pub opening : seat.0.opening ≡ false
    pub limit : limit_of value ≡ seat.0.limit
    pub setting : setting_of value ≡ seat.0.setting

  -- the event stands behind a history that begins with what had been seen
  pub record RecordsInTurn
      (step_limit : ℕ → List Event → Event → Option ℕ)
      (before after : SeatAndSlot V)
      (number feed : ℕ) (moment : ℤ) (command : Command)
      (steps_before steps_after : ℕ) : Type 0 where
    pub history : List Event
    pub seen : StartsWith history before.0.seen
    pub turn : ℕ
    pub after_is : after ≡ (
      after_turn turn (history ++ event number feed moment command ∷ [])
          (with_event (history ++ event number feed moment command ∷ []) before.0),
      [],
    )
    pub number_is : number ≡ length history + 1
    pub room : number ≤ before.0.limit
    pub later : before.0.last_turn < turn
    pub steps : IfSome (step_limit before.0.setting history (event number feed moment command)) (λ most.
        steps_after ≤ steps_before + most)

  -- the history that was found has been seen, and nothing was recorded
  pub record RefusesInTurn
      (step_limit : ℕ → List Event → Event → Option ℕ)
      (before after : SeatAndSlot V)
      (refusal : FloorRefusal) (feed : ℕ) (moment : ℤ) (command : Command)
      (steps_before steps_after : ℕ) : Type 0 where
    pub history : List Event
    pub seen : StartsWith history before.0.seen
    pub turn : ℕ
    pub after_is : after ≡ (after_turn turn history before.0, [])
    pub later : before.0.last_turn < turn
    pub full : IfFull (λ found. (found ≡ length history) × (found ≡ before.0.limit)) refusal
    pub steps : CostsNothing (step_limit before.0.setting) history
        (event (length history + 1) feed moment command) steps_before steps_after

module _ {V : Type 0} (journal_of : V → List Event) (limit_of setting_of : V → ℕ) (opening_value : V) where
  -- what the seat with all parts gets back
  pub record IsGathered (seat : SeatView) (value : V) : Type 0 where
    pub limit : limit_of value ≡ limit_of opening_value
    pub setting : setting_of value ≡ setting_of opening_value
    pub seen : StartsWith (journal_of value) seat.seen
    pub mine : seat.mine ≡ range_with_len 1 (length (journal_of value))
