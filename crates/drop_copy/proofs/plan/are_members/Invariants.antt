-- The words so far are members' names.
use Rattle.std.proofs.Common.{◌≡◌, drop}
use Rattle.program_words.specs.Words.{texts}
use Rattle.drop_copy.specs.Plans.{are_members}
use Rattle.drop_copy.proofs.plan.are_members.Given as goal

abbrev pub invariant-loop-word : goal.invariant-loop-word
invariant-loop-word l = are_members l.members (texts (drop l.word-index l.words)) ≡ are_members l.members (texts l.words)
