-- The symbol was looked at for the members so far.
use Rattle.std.proofs.Common.{◌≡◌, ◌≢◌, ℕ}
use Rattle.member_gate.specs.Submitting.{Waited}
use Rattle.drop_copy.specs.Looks.{LookedSoFar}
use Rattle.drop_copy.proofs.copying.look_at_symbol.Given as goal

abbrev pub invariant-loop-member : goal.invariant-loop-member
invariant-loop-member g l = record {
  mark : g.F.Floor.mark l.floor ≡ g.F.Floor.mark l.initial.floor;
  others : (other : ℕ) → other ≢ l.symbol → g.F.Floor.at l.floor other ≡ g.F.Floor.at l.initial.floor other;
  waited : Waited (g.F.Floor.at l.initial.floor l.symbol) (g.F.Floor.at l.floor l.symbol);
  looked : LookedSoFar (g.F.Floor.reports_in (g.F.Floor.mark l.initial.floor) l.symbol) l.listed.config.now l.symbol l.listed.members.now l.listed.cursors.now
      (g.F.Floor.at l.initial.floor l.symbol) (g.F.Floor.at l.floor l.symbol)
      l.initial.messages l.messages l.initial.moved.items l.moved.items l.member-index;
}
