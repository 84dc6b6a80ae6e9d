-- What a call on one symbol leaves of the books of a venue for one thread.
use Rattle.std.specs.Prelude.{◌≡◌, ℕ, ◌+◌, ◌≤◌, ℤ, List, [], ◌∷◌, ◌++◌, length, slice_get, slice_set, Option, Some}
use Rattle.std.specs.Prelude.{Result, IfOk, IfErr, OnErr, IfSome}
use Rattle.venue_words.specs.Floors.{CostsNothing}
use Rattle.venue_words.specs.Journals.{IfFull, event}
use Rattle.venue_words.specs.declared.command.Command.{Command}
use Rattle.venue_words.specs.declared.command.Event.{Event}
use Rattle.venue_words.specs.declared.refusal.FloorRefusal.{FloorRefusal}

module _
    {V : Type 0} (journal_of : V → List Event) (limit_of setting_of : V → ℕ)
    (step_limit : ℕ → List Event → Event → Option ℕ) where
  -- the symbol's book was given the command, and the others are as they were
  pub record SubmitsTo
      (before after : List V)
      (symbol : ℕ) (result : Result ℕ FloorRefusal)
      (feed : ℕ) (moment : ℤ) (command : Command)
      (steps_before steps_after : ℕ) : Type 0 where
    pub old : V
    pub new : V
    pub was : slice_get before symbol ≡ Some old
    pub is : after ≡ slice_set before symbol new
    pub limit : limit_of new ≡ limit_of old
    pub setting : setting_of new ≡ setting_of old
    -- it was recorded
    pub number : IfOk result (λ number. number ≡ length (journal_of old) + 1)
    pub journal : IfOk result (λ number. journal_of new ≡ journal_of old ++ event number feed moment command ∷ [])
    pub room : IfOk result (λ number. number ≤ limit_of old)
    pub steps : IfOk result (λ number. IfSome
        (step_limit (setting_of old) (journal_of old) (event number feed moment command))
        (λ most. steps_after ≤ steps_before + most))
    -- or refused
    pub err : OnErr result (journal_of new ≡ journal_of old)
    pub full : IfErr result (IfFull (λ found. (found ≡ length (journal_of old)) × (found ≡ limit_of old)))
    pub idle : OnErr result (CostsNothing (step_limit (setting_of old)) (journal_of old)
        (event (length (journal_of old) + 1) feed moment command) steps_before steps_after)
