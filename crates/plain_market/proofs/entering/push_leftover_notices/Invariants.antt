use Rattle.std.proofs.Common.{◌≡◌, ◌++◌, drop, true}
use Rattle.eager_meaning.specs.Entering.{leftover_notices}
use Rattle.plain_market.proofs.entering.push_leftover_notices.Given as goal

-- what is told so far, and what the rows that are left will tell
abbrev pub invariant-loop-x : goal.invariant-loop-x
invariant-loop-x l =
    l.notices.items ++ leftover_notices true (drop l.x-index l.left) l.orders
    ≡ l.initial.notices.items ++ leftover_notices true l.left l.orders
