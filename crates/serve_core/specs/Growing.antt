-- How what a floor shows of a symbol grows by its own calls.
use Rattle.std.specs.Prelude.{◌≡◌, ◌-◌, ◌++◌, ℕ, ℤ, List, Some, slice_get}
use Rattle.std.specs.List.{AllZip}
use Rattle.venue_words.specs.declared.command.Command.{Command}
use Rattle.venue_words.specs.declared.command.Event.{Event}
use Rattle.venue_words.specs.Floors.{SymbolView, TurnsKept}
use Rattle.venue_words.specs.Journals.{event, StartsWith}

-- the event of this number in a journal is this command, of this feed and at this moment
abbrev pub IsEventOf : List Event → ℕ → ℕ → ℤ × Command → Type 0
IsEventOf journal feed number call = slice_get journal (number - 1) ≡ Some (event number feed call.0 call.1)

-- the own calls grew by exactly these commands of a feed, each with its moment, in their order; nothing that was seen is
-- taken back, and no turn is uncounted
pub record Grew (feed : ℕ) (calls : List (ℤ × Command)) (before after : SymbolView) : Type 0 where
  pub numbers : List ℕ
  pub mine : after.mine ≡ before.mine ++ numbers
  pub are : AllZip (IsEventOf after.journal feed) numbers calls
  pub journal : StartsWith after.journal before.journal
  pub reports : StartsWith after.reports before.reports
  pub turns : TurnsKept before.turns after.turns
