use Rattle.std.proofs.Common.{◌≡◌, List, ◌++◌, take, drop, map}
use Rattle.std.specs.List.{AllZip, flat_map}
use Rattle.member_gate.specs.Desks.{DeskView}
use Rattle.line_work.specs.FeedState.{Connection}
use Rattle.line_work.specs.LineWork.{ticked, tick_lines}
use Rattle.line_work.specs.Standing.{IsDeskOf}
use Rattle.line_work.proofs.ticking.tick_all.Given as goal

-- the desks so far were ticked, and what they sent was appended
abbrev pub invariant-loop-number : goal.invariant-loop-number
invariant-loop-number l = record {
  desks : (connections : List Connection) → AllZip IsDeskOf l.initial.desks connections
      → AllZip IsDeskOf l.desks (map (ticked l.fn.moment) (take l.number connections) ++ drop l.number connections);
  text : (connections : List Connection) → AllZip IsDeskOf l.initial.desks connections
      → l.out.items ≡ l.initial.out.items ++ flat_map (tick_lines l.config l.fn.moment) (take l.number connections);
  numbers : map (λ (d : DeskView). d.member) l.desks ≡ map (λ (d : DeskView). d.member) l.initial.desks;
  cursors : map (λ (d : DeskView). d.cursors) l.desks ≡ map (λ (d : DeskView). d.cursors) l.initial.desks;
}
