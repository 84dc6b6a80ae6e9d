-- None of the words so far stands again.
use Rattle.std.proofs.Common.{◌≡◌, drop}
use Rattle.program_words.specs.Words.{texts}
use Rattle.drop_copy.specs.Plans.{are_distinct}
use Rattle.drop_copy.proofs.plan.are_distinct.Given as goal

abbrev pub invariant-loop-place : goal.invariant-loop-place
invariant-loop-place l = are_distinct (texts (drop l.place l.words)) ≡ are_distinct (texts l.words)
