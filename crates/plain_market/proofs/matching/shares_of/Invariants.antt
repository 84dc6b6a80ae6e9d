use Rattle.std.proofs.Common.{◌≡◌, drop}
use Rattle.eager_meaning.specs.Matching.{shares_of}
use Rattle.plain_market.proofs.matching.shares_of.Given as goal

-- the row is not among the takes so far
abbrev pub invariant-loop-take : goal.invariant-loop-take
invariant-loop-take l = shares_of (drop l.take-index l.takes) l.x ≡ shares_of l.takes l.x
