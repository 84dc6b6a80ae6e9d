-- What an event's reports are numbered with, and how a New is answered.
use Rattle.std.specs.Prelude.{◌≡◌, ℕ, ◌+◌, Bool, true, false, List, [], ◌∷◌, ◌++◌, slice_get, Option, Some, None}
use Rattle.std.specs.List.{AllByRecursion}
use Rattle.venue_words.specs.declared.command.Command.TheVariants.{New}
use Rattle.venue_words.specs.declared.command.Event.{Event}
use Rattle.venue_words.specs.declared.rule.Rule.{Rule}
use Rattle.venue_words.specs.declared.terms.Terms.{Terms}
use Rattle.venue_words.specs.declared.report.Execution.TheVariants.{Accepted}
use Rattle.venue_words.specs.declared.report.Kind.{Kind}
use Rattle.venue_words.specs.declared.report.Kind.TheVariants.{Order, Rejected}
use Rattle.venue_words.specs.declared.report.Report.{Report}
use Rattle.venue_words.specs.declared.report.View.{View}
use Rattle.eager_meaning.specs.State.{State}
use Rattle.eager_meaning.specs.Orders.{is_used, known_of}
use Rattle.eager_meaning.specs.Step.{runs}
use Rattle.eager_meaning.specs.Verdict.{verdict}

-- the reports that an event adds to those of the history before it
abbrev pub AreToldBy : ℕ → ℕ → List Event → Event → List Report → Type 0
AreToldBy markets tick history event told =
    (runs markets tick (history ++ event ∷ [])).reports ≡ (runs markets tick history).reports ++ told

-- ---- numbers and places

-- a report has its event's number and moment, and this place
pub record IsAt (event : Event) (at : ℕ) (report : Report) : Type 0 where
  pub number : report.event ≡ event.number
  pub moment : report.moment ≡ event.moment
  pub place : report.place ≡ at

-- the reports of an event have its number and moment, and the places 1, 2, 3 and so on
abbrev pub AreInPlace : Event → List Report → Type 0
AreInPlace event told = (k : ℕ) (report : Report) → slice_get told k ≡ Some report → IsAt event (k + 1) report

-- for every history and one more event: what it adds has its number and moment, and the places 1, 2, 3 and so on
abbrev pub ReportsAreInPlace : Type 0
ReportsAreInPlace =
    (markets tick : ℕ) (history : List Event) (event : Event)
    → (told : List Report) × AreToldBy markets tick history event told × AreInPlace event told

-- ---- answers to a New

-- whether a report acknowledges or rejects a New
abbrev pub answers_new : Kind → Bool
answers_new (Order view Accepted) = true
answers_new (Rejected id side quantity rule) = true
answers_new _ = false

-- the first rule that a New breaks in this state, or none
abbrev pub rule_broken : ℕ → State → ℕ → List ℕ → Terms → Option Rule
rule_broken tick s member id terms = verdict (New member id terms) (known_of tick (is_used member id s.used) None)

-- the answer to a New at an event: a rejection by the rule that it breaks, or an acknowledgement of its own id
abbrev pub IsAnswer : ℕ → List ℕ → Terms → Option Rule → Kind → Type 0
IsAnswer event id terms (Some rule) kind = kind ≡ Rejected id terms.side terms.quantity rule
IsAnswer event id terms None kind = (view : View) × (kind ≡ Order view Accepted) × (view.id ≡ id) × (view.first ≡ event)

-- the first report, at place 1 and to the member, answers; none of the others is an answer to a New
pub record IsAnsweredOnce (event member : ℕ) (id : List ℕ) (terms : Terms) (broken : Option Rule) (told : List Report) : Type 0 where
  pub answer : Report
  pub others : List Report
  pub all : told ≡ answer ∷ others
  pub place : answer.place ≡ 1
  pub to : answer.member ≡ member
  pub says : IsAnswer event id terms broken answer.kind
  pub once : AllByRecursion (λ report. answers_new report.kind ≡ false) others

-- for every history and a New after it: it has one answer, at place 1
abbrev pub NewIsAnsweredOnce : Type 0
NewIsAnsweredOnce =
    (markets tick : ℕ) (history : List Event) (event : Event) (member : ℕ) (id : List ℕ) (terms : Terms)
    → event.command ≡ New member id terms
    → (told : List Report)
    × AreToldBy markets tick history event told
    × IsAnsweredOnce event.number member id terms (rule_broken tick (runs markets tick history).state member id terms) told
