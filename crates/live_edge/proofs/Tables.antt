-- Of a table as its history says: a member has one connection at most.
use Rattle.std.proofs.Common.{◌≡◌, ℕ, Option, Some, List, ◌++◌, ap, subst}
use Rattle.ports.specs.declared.slots.State.{State}
use Rattle.ports.specs.declared.slots.State.TheVariants.{Free, Unnamed, Named}
use Rattle.ports.specs.declared.table.Table.{Table}
use Rattle.ports.specs.History.{Event, handed, due}
use Rattle.ports.specs.Calls.{IsFront}
use Rattle.ports.specs.Sound.{Sound, Stands, IsLive}
use Rattle.ports.specs.Slots.{state_at, kept_at, port_of, waits_of}

same_port : (port : Option ℕ) (p q : ℕ) → port ≡ Some q → port ≡ Some p → p ≡ q
same_port port p q a b = cc

pub live_of : (past : List Event) (t : Table) (c w : ℕ → List ℕ) → Sound past t c w → (p m : ℕ) → state_at t p ≡ Named m → IsLive (handed past p) (due past p) (kept_at t p) (c p) (w p) (waits_of t m) (port_of t m) p
live_of past t c w s p m e = subst (λ (x : State). Stands x (handed past p) (due past p) (kept_at t p) (c p) (w p) (waits_of t) (port_of t) p) e (s.each p)

pub one_each : (past : List Event) (t : Table) (c w : ℕ → List ℕ) → Sound past t c w → (p q m : ℕ) → state_at t p ≡ Named m → state_at t q ≡ Named m → p ≡ q
one_each past t c w s p q m e f = same_port (port_of t m) p q (live_of past t c w s q m f).sole (live_of past t c w s p m e).sole

front_at : (s : State) (on owed kept c w : List ℕ) (ws : ℕ → List ℕ) (ps : ℕ → Option ℕ) (p : ℕ) → Stands s on owed kept c w ws ps p → IsFront w owed
front_at Free on owed kept c w ws ps p h = h.due
front_at Unnamed on owed kept c w ws ps p h = (owed, ap (λ x. x ++ owed) h.nothing)
front_at (Named m) on owed kept c w ws ps p h = (ws m, h.due)

-- what a port took is a beginning of what is due to it
pub taken_front : (past : List Event) (t : Table) (c w : ℕ → List ℕ) → Sound past t c w → (p : ℕ) → IsFront (w p) (due past p)
taken_front past t c w s p = front_at (state_at t p) (handed past p) (due past p) (kept_at t p) (c p) (w p) (waits_of t) (port_of t) p (s.each p)
