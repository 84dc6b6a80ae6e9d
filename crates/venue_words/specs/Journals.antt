-- Journals, and what is read of their reports.
use Rattle.std.specs.Prelude.{◌≡◌, ℕ, ◌==◌, ℤ, List, ◌++◌, filter, drop}
use Rattle.venue_words.specs.declared.command.Command.{Command}
use Rattle.venue_words.specs.declared.command.Event.{Event}
use Rattle.venue_words.specs.declared.report.Report.{Report}
use Rattle.venue_words.specs.declared.refusal.FloorRefusal.{FloorRefusal}
use Rattle.venue_words.specs.declared.refusal.FloorRefusal.TheVariants.{Full, NoMemory}

-- a command as the event of this number
abbrev pub event : ℕ → ℕ → ℤ → Command → Event
event number feed moment command = record { number = number; feed = feed; moment = moment; command = command }

-- the list begins with the other one
abbrev pub StartsWith : {A : Type 0} → List A → List A → Type 0
StartsWith {A} xs ys = (rest : List A) × (xs ≡ ys ++ rest)

-- the member's reports from a position on
abbrev pub reports_of : ℕ → ℕ → List Report → List Report
reports_of member from reports = filter (λ report. report.member == member) (drop from reports)

-- a fact of the number of events found, where that is why
abbrev pub IfFull : (ℕ → Type 0) → FloorRefusal → Type 0
IfFull p (Full found) = p found
IfFull p NoMemory = Unit {0}
