-- The symbols so far were asked for, or have no news.
use Rattle.std.proofs.Common.{◌≡◌}
use Rattle.member_gate.proofs.Looking.{Looked, asked_seen, for_news}
use Rattle.member_gate.proofs.reporting.look_past.Given as goal

abbrev pub invariant-loop-symbol : goal.invariant-loop-symbol
invariant-loop-symbol g l = record {
  mark : g.F.Floor.mark l.floor ≡ g.F.Floor.mark l.initial.floor;
  looked : Looked g.F.Floor.at l.reader.config.now l.reader.member l.reader.cursors.now (asked_seen l.awaited.asked.now) (for_news l.awaited.asked.now l.reader.cursors.now) l.initial.floor l.symbol l.floor l.messages l.fronts.items;
}
