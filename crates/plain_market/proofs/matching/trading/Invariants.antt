use Rattle.std.proofs.Common.{◌≡◌, take, nat_lt}
use Rattle.std.specs.Prelude.{filter}
use Rattle.eager_meaning.specs.Walk.{total_of}
use Rattle.plain_market.proofs.matching.trading.Given as goal

-- what is kept of the takes so far
abbrev pub invariant-loop-take : goal.invariant-loop-take
invariant-loop-take l =
    (l.kept.items ≡ filter (λ t. nat_lt 0 t.shares) (take l.take-index l.takes))
    × (total_of l.kept.items ≡ total_of (take l.take-index l.takes))
