use Rattle.std.proofs.Common.{rules}
use Rattle.turn_gate.proofs.calls.submit.Goals as goal

pub record_event-requires-clause-grown : goal.record_event-requires-clause-grown
record_event-requires-clause-grown g c = search rules

pub pass_turn-requires-clause-holds : goal.pass_turn-requires-clause-holds
pass_turn-requires-clause-holds g c = search rules

pub returns-clause-ok : goal.returns-clause-ok
returns-clause-ok g c = search rules

pub returns-clause-err : goal.returns-clause-err
returns-clause-err g c = search rules
