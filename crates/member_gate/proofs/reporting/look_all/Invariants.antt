-- The symbols so far were asked for.
use Rattle.std.proofs.Common.{◌≡◌}
use Rattle.venue_words.specs.Floors.{TurnsRose}
use Rattle.member_gate.proofs.Looking.{Looked, all_seen}
use Rattle.member_gate.proofs.reporting.look_all.Given as goal

abbrev pub invariant-loop-symbol : goal.invariant-loop-symbol
invariant-loop-symbol g l = record {
  mark : g.F.Floor.mark l.floor ≡ g.F.Floor.mark l.initial.floor;
  looked : Looked g.F.Floor.at l.reader.config.now l.reader.member l.reader.cursors.now all_seen (λ _ before after. TurnsRose before.turns after.turns) l.initial.floor l.symbol l.floor l.messages l.fronts.items;
}
