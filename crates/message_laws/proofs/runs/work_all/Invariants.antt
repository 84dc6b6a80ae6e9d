-- The answers so far lead to the session as it is, and there is room for the rest.
use Rattle.std.proofs.Common.{◌+◌, ◌-◌, ◌≤◌, ◌++◌, List, Result, drop, length, vec_len}
use Rattle.std.specs.Prelude.{vec_capacity}
use Rattle.venue_words.specs.declared.refusal.NoMemory.{NoMemory}
use Rattle.session_core.specs.declared.turn.Turn.{Turn}
use Rattle.session_core.specs.Machine.{Machine}
use Rattle.session_core.specs.Runs.{Follows}
use Rattle.message_laws.proofs.runs.work_all.Given as goal

abbrev pub invariant-loop-input : goal.invariant-loop-input
invariant-loop-input l = record {
  follows : (more : List (Result Turn NoMemory)) (last : Machine) →
      Follows l.session (drop l.input-index l.inputs) more last →
      Follows l.fn.session l.inputs (l.answers.items ++ more) last;
  room : vec_len l.answers + (length l.inputs - l.input-index) ≤ vec_capacity l.answers;
}
