-- How long the identifiers are that a book keeps and tells.
use Rattle.std.proofs.Common.{◌≡◌, ℕ, ◌≤◌, Bool, true, false, ◌&&◌, List, length, refl, arith}
use Rattle.std.proofs.lemmas.Bool.Decides.{nat_tests}
use Rattle.std.specs.List.{AllByRecursion}
use Rattle.std.specs.Option.{ForSome}
use Rattle.venue_words.specs.declared.command.Command.{Command}
use Rattle.venue_words.specs.declared.command.Command.TheVariants.{Quote, New, Cancel, Replace, Status as Request}
use Rattle.venue_words.specs.declared.command.Event.{Event}
use Rattle.venue_words.specs.declared.report.Execution.{Execution}
use Rattle.venue_words.specs.declared.report.Execution.TheVariants.{Canceled, Replaced}
use Rattle.venue_words.specs.declared.report.Kind.{Kind}
use Rattle.venue_words.specs.declared.report.Kind.TheVariants.{Order, Rejected, Unknown, Refused}
use Rattle.venue_words.specs.Conditions.{fits_id, fits_limits}
use Rattle.venue_words.specs.declared.limits.TheConstants.{MAX_ID_BYTES}
use Rattle.eager_meaning.specs.Step.{Run, runs}

-- an identifier of at most 64 bytes
abbrev pub IsShort : List ℕ → Type 0
IsShort id = length id ≤ MAX_ID_BYTES

-- what holds of each identifier of a command
abbrev pub EachGiven : (List ℕ → Type 0) → Command → Type 0
EachGiven P (Quote market bid offer) = Unit {0}
EachGiven P (New member id terms) = P id
EachGiven P (Cancel member id orig) = P id × P orig
EachGiven P (Replace member id orig terms) = P id × P orig
EachGiven P (Request member id side) = P id

-- what holds of the identifier that an order had before, where a report tells it
abbrev pub OrigTold : (List ℕ → Type 0) → Execution → Type 0
OrigTold P (Canceled orig) = ForSome orig P
OrigTold P (Replaced orig) = P orig
OrigTold P _ = Unit {0}

-- what holds of each identifier that a report tells
abbrev pub EachTold : (List ℕ → Type 0) → Kind → Type 0
EachTold P (Order view execution) = P view.id × OrigTold P execution
EachTold P (Rejected id side quantity rule) = P id
EachTold P (Unknown id side) = P id
EachTold P (Refused id orig order request rule) = P id × P orig

-- the identifiers that a book holds: those of its orders, and those that are used up
pub record EachHeld (P : List ℕ → Type 0) (run : Run) : Type 0 where
  pub orders : AllByRecursion (λ order. P order.id) run.state.orders
  pub used : AllByRecursion (λ name. P name.1) run.state.used
  pub reports : AllByRecursion (λ report. EachTold P report.kind) run.reports

-- after every history whose commands give identifiers of at most 64 bytes: so long at most are those of the orders, those
-- that are used up and those that the reports tell
abbrev pub IdsAreShort : Type 0
IdsAreShort =
    (markets tick : ℕ) (history : List Event)
    → AllByRecursion (λ event. EachGiven IsShort event.command) history
    → EachHeld IsShort (runs markets tick history)

-- ---- commands within the limits

length_within : (id : List ℕ) → fits_id id ≡ true → IsShort id
length_within id h = grind (arith, nat_tests)

both_hold : (a b : Bool) → (a && b) ≡ true → (a ≡ true) × (b ≡ true)
both_hold true b h = (refl, h)
both_hold false b h = cc

-- a command within the limits gives such identifiers
pub short_within_limits : (command : Command) → fits_limits command ≡ true → EachGiven IsShort command
short_within_limits (Quote market bid offer) h = tt
short_within_limits (New member id terms) h = length_within id h
short_within_limits (Cancel member id orig) h = let both = both_hold _ _ h in (length_within id both.0, length_within orig both.1)
short_within_limits (Replace member id orig terms) h = let both = both_hold _ _ h in (length_within id both.0, length_within orig both.1)
short_within_limits (Request member id side) h = length_within id h
