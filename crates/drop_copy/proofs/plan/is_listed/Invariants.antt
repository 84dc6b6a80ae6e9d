-- The words so far are other ones.
use Rattle.std.proofs.Common.{◌≡◌, drop}
use Rattle.program_words.specs.Words.{texts}
use Rattle.drop_copy.specs.Plans.{is_among}
use Rattle.drop_copy.proofs.plan.is_listed.Given as goal

abbrev pub invariant-loop-word : goal.invariant-loop-word
invariant-loop-word l = is_among (texts (drop l.word-index l.words)) l.name ≡ is_among (texts l.words) l.name
