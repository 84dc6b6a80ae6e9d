-- The members so far were gone through.
use Rattle.std.proofs.Common.{◌≡◌, filter}
use Rattle.std.specs.List.{range_with_len}
use Rattle.member_gate.specs.Answering.{name_at}
use Rattle.program_words.specs.Words.{texts}
use Rattle.drop_copy.specs.Plans.{is_among}
use Rattle.drop_copy.proofs.plan.listed_members.Given as goal

abbrev pub invariant-loop-number : goal.invariant-loop-number
invariant-loop-number l =
    l.numbers.items ≡ filter (λ number. is_among (texts l.words) (name_at l.members number)) (range_with_len 0 l.number)
