-- The symbols so far were looked at.
use Rattle.std.proofs.Common.{◌≡◌}
use Rattle.drop_copy.proofs.Looking.{AllLooked}
use Rattle.drop_copy.proofs.copying.look_at_all.Given as goal

abbrev pub invariant-loop-symbol : goal.invariant-loop-symbol
invariant-loop-symbol g l = record {
  mark : g.F.Floor.mark l.floor ≡ g.F.Floor.mark l.initial.floor;
  looked : AllLooked g.F.Floor.at (g.F.Floor.reports_in (g.F.Floor.mark l.initial.floor)) l.listed.config.now l.listed.members.now l.listed.cursors.now l.initial.floor
      l.symbol l.floor l.messages l.moved.items;
}
