-- The names of orders: a member and the identifier that it gave.
use Rattle.std.specs.Prelude.{◌≡◌, ℕ, true, List, [], ◌∷◌, flat_map, slice_get, Some}
use Rattle.venue_words.specs.declared.command.Event.{Event}
use Rattle.venue_words.specs.declared.report.Execution.TheVariants.{Accepted, Canceled, Replaced}
use Rattle.venue_words.specs.declared.report.Kind.{Kind}
use Rattle.venue_words.specs.declared.report.Kind.TheVariants.{Order as OrderReport}
use Rattle.venue_words.specs.declared.report.Report.{Report}
use Rattle.eager_meaning.specs.declared.order.Order.{Order}
use Rattle.eager_meaning.specs.Orders.{order_named, is_used}
use Rattle.eager_meaning.specs.State.{State}
use Rattle.eager_meaning.specs.Step.{runs}

-- a member and one of its identifiers
abbrev pub Name : Type 0
Name = ℕ × List ℕ

-- the present name of an order
abbrev pub name_of : Order → Name
name_of order = (order.member, order.id)

-- no name is used up twice, the present name of each order is used up, and it names that order: so no two orders have one
-- name
pub record AreNamed (s : State) : Type 0 where
  pub once : (j k : ℕ) (name : Name) → slice_get s.used j ≡ Some name → slice_get s.used k ≡ Some name → j ≡ k
  pub used : (k : ℕ) (order : Order) → slice_get s.orders k ≡ Some order → is_used order.member order.id s.used ≡ true
  pub found : (k : ℕ) (order : Order) → slice_get s.orders k ≡ Some order → order_named order.member order.id s.orders ≡ Some (k, order)

-- so after every history
abbrev pub OrdersAreNamed : Type 0
OrdersAreNamed = (markets tick : ℕ) (history : List Event) → AreNamed (runs markets tick history).state

-- the name that a report tells as used up: that of a New, a Cancel or a Replace that was accepted
abbrev pub used_by : ℕ → Kind → List Name
used_by member (OrderReport view Accepted) = (member, view.id) ∷ []
used_by member (OrderReport view (Canceled (Some orig))) = (member, view.id) ∷ []
used_by member (OrderReport view (Replaced orig)) = (member, view.id) ∷ []
used_by member _ = []

-- the names that reports tell as used up, in their order
abbrev pub names_used_by : List Report → List Name
names_used_by reports = flat_map (λ report. used_by report.member report.kind) reports

-- after every history: the names that are used up are those that its reports tell as used up
abbrev pub UsedNamesAreTold : Type 0
UsedNamesAreTold =
    (markets tick : ℕ) (history : List Event)
    → (runs markets tick history).state.used ≡ names_used_by (runs markets tick history).reports
