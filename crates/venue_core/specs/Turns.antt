-- What a call on one symbol leaves of the seats.
use Rattle.std.specs.Prelude.{◌≡◌, ℕ, ◌+◌, ◌≤◌, ℤ, List, [], ◌∷◌, ◌++◌, length, slice_get, slice_set, Option, Some}
use Rattle.std.specs.Prelude.{Result, IfOk, IfErr, OnErr}
use Rattle.turn_gate.specs.Seats.{SeatState, Extends}
use Rattle.venue_words.specs.Floors.{CostsAtMost, CostsNothing}
use Rattle.venue_words.specs.Journals.{StartsWith, IfFull, event, reports_of}
use Rattle.venue_words.specs.declared.command.Command.{Command}
use Rattle.venue_words.specs.declared.command.Event.{Event}
use Rattle.venue_words.specs.declared.refusal.FloorRefusal.{FloorRefusal}
use Rattle.venue_words.specs.declared.refusal.NoMemory.{NoMemory}
use Rattle.venue_words.specs.declared.report.Look.{Look}
use Rattle.venue_words.specs.declared.report.Report.{Report}

-- the symbol's seat has passed a turn, and the others are as they were
pub record PassesTurn (before after : List SeatState) (symbol : ℕ) (seat passed : SeatState) : Type 0 where
  pub was : slice_get before symbol ≡ Some seat
  pub is : after ≡ slice_set before symbol passed
  pub gate : passed.gate ≡ seat.gate
  pub part : passed.part ≡ seat.part
  pub turns : passed.turns ≡ seat.turns + 1

-- the symbol's gate was given the command through the symbol's seat
pub record Submits
    (step_limit : ℕ → List Event → Event → Option ℕ)
    (before after : List SeatState)
    (symbol : ℕ) (result : Result ℕ FloorRefusal)
    (feed : ℕ) (moment : ℤ) (command : Command)
    (steps_before steps_after : ℕ) : Type 0 where
  pub old : SeatState
  pub new : SeatState
  pub turn : PassesTurn before after symbol old new
  -- it was recorded
  pub event_is : IfOk result (λ number. Extends old.seen new.seen (event number feed moment command))
  pub number : IfOk result (λ number. number ≡ length new.seen)
  pub mine : IfOk result (λ number. new.mine ≡ old.mine ++ number ∷ [])
  pub room : IfOk result (λ number. number ≤ old.gate.limit)
  pub steps : IfOk result (λ number. CostsAtMost (step_limit old.gate.setting) new.seen
      (event number feed moment command) steps_before steps_after)
  -- or refused
  pub seen : OnErr result (StartsWith new.seen old.seen)
  pub none_mine : OnErr result (new.mine ≡ old.mine)
  pub full : IfErr result (IfFull (λ found. (found ≡ length new.seen) × (found ≡ old.gate.limit)))
  pub idle : OnErr result (CostsNothing (step_limit old.gate.setting) new.seen
      (event (length new.seen + 1) feed moment command) steps_before steps_after)

-- the symbol's gate was looked at through the symbol's seat
pub record Looks
    (reports : ℕ → List Event → List Report)
    (before after : List SeatState)
    (symbol : ℕ) (result : Result Look NoMemory) (member from : ℕ) : Type 0 where
  pub old : SeatState
  pub new : SeatState
  pub turn : PassesTurn before after symbol old new
  pub mine : new.mine ≡ old.mine
  pub seen : StartsWith new.seen old.seen
  pub shown : IfOk result (λ look. look.reports ≡ reports_of member from (reports old.gate.setting new.seen))
  pub front : IfOk result (λ look. look.front ≡ length (reports old.gate.setting new.seen))
