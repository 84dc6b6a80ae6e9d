use Rattle.std.proofs.Common.{◌≡◌, ◌*◌, ◌≤◌, take}
use Rattle.feeds_core.specs.Books.{count_at}
use Rattle.feeds_core.specs.FeedLists.{asked_in}
use Rattle.feeds_core.proofs.sums.count_at.Given as goal

-- the count so far
abbrev pub invariant-loop-list : goal.invariant-loop-list
invariant-loop-list l = record {
  count : l.count ≡ count_at l.symbol (asked_in (take l.list-index l.lists));
  small : l.count ≤ l.list-index * 4294967295;
}
