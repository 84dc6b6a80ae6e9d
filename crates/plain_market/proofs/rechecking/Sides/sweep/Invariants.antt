use Rattle.std.proofs.Common.{◌≡◌, drop}
use Rattle.eager_meaning.specs.Recheck.{sweep}
use Rattle.plain_market.proofs.rechecking.Sides.sweep.Given as goal

-- the takers that are left lead where all of them do
abbrev pub invariant-loop-taker : goal.invariant-loop-taker
invariant-loop-taker l = sweep (drop l.taker-index l.takers) l.self ≡ sweep l.takers l.fn.self
