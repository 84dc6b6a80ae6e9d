-- The first shares have their numbers.
use Rattle.std.proofs.Common.{◌≡◌, ◌++◌, length}
use Rattle.feed_work.specs.Working.{AreNumbered}
use Rattle.feed_work.proofs.share.numbered.Given as goal

abbrev pub invariant-loop-share : goal.invariant-loop-share
invariant-loop-share g l =
    AreNumbered 1 l.yielded l.numbered.items
    × (l.fn.shares.items ≡ l.yielded ++ l.share-iterator.rest.items)
    × (length l.share-iterator.rest.items ≡ l.share-iterator.rest.len)
