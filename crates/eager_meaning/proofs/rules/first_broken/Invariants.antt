use Rattle.std.proofs.Common.{◌≡◌, drop}
use Rattle.eager_meaning.specs.Verdict.{first_broken}
use Rattle.eager_meaning.proofs.rules.first_broken.Given as goal

-- no rule so far is broken
abbrev pub invariant-loop-is_broken : goal.invariant-loop-is_broken
invariant-loop-is_broken l = first_broken (drop l.is_broken-index l.tests) ≡ first_broken l.tests
