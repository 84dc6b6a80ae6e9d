use Rattle.std.proofs.Common.{ℕ, ◌<◌, ◌≤◌, slice_index}
use Rattle.feeds_core.specs.Books.{count_at}
use Rattle.feeds_core.specs.FeedLists.{asked_in}
use Rattle.feeds_core.proofs.sums.first_full.Given as goal

-- the symbols so far don't have too many
abbrev pub invariant-loop-symbol : goal.invariant-loop-symbol
invariant-loop-symbol l = (k : ℕ) → k < l.symbol → count_at k (asked_in l.lists) ≤ slice_index l.limits k
