use Rattle.std.proofs.Common.{◌≡◌, ◌||◌, ℕ, take}
use Rattle.feeds_core.specs.Judging.{is_among}
use Rattle.feeds_core.specs.Naming.{has_name}
use Rattle.feeds_core.proofs.refused.take_all.Given as goal

-- the members so far
abbrev pub invariant-loop-one : goal.invariant-loop-one
invariant-loop-one l = (member : ℕ) → is_among l.taken.items member
    ≡ (is_among l.initial.taken.items member || has_name (take l.one-index l.named) member)
