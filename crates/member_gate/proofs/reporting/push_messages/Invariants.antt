-- The reports so far were added.
use Rattle.std.proofs.Common.{◌≡◌, ◌++◌, map, take}
use Rattle.member_gate.specs.Answering.{message_of}
use Rattle.member_gate.proofs.reporting.push_messages.Given as goal

abbrev pub invariant-loop-report : goal.invariant-loop-report
invariant-loop-report l =
    l.messages ≡ l.initial.messages ++ map (message_of l.member l.symbol) (take l.report-index l.reports)
