use Rattle.std.proofs.Common.{◌≡◌, ◌++◌, ◌+◌, drop}
use Rattle.eager_meaning.specs.Walk.{walk, total_of}
use Rattle.plain_market.proofs.walking.walk.Given as goal

-- the takes so far and those to come are the whole walk
abbrev pub invariant-loop-contra : goal.invariant-loop-contra
invariant-loop-contra l =
    (l.takes.items ++ walk l.taker l.left (drop l.contra-index l.contras) ≡ walk l.taker l.taker.row.leaves l.contras)
    × (total_of l.takes.items + l.left ≡ l.taker.row.leaves)
