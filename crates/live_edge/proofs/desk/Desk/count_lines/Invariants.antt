use Rattle.std.proofs.Common.{◌≡◌}
use Rattle.live_edge.proofs.desk.Desk.count_lines.Given as goal

abbrev pub invariant-loop-line : goal.invariant-loop-line
invariant-loop-line g l = l.self ≡ record l.initial.self { lines = l.self.lines; bytes = l.self.bytes }
