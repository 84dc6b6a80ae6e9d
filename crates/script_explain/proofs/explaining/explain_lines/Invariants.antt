-- The lines so far were told.
use Rattle.std.proofs.Common.{◌≤◌}
use Rattle.script_explain.proofs.explaining.explain_lines.Given as goal

abbrev pub invariant-lines : goal.invariant-lines
invariant-lines g l = record { later : g.K.Sink.faults l.initial.out ≤ g.K.Sink.faults l.out }
