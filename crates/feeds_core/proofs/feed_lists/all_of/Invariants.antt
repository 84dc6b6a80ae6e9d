use Rattle.std.proofs.Common.{◌≡◌, ◌++◌, Ok, map, length}
use Rattle.feeds_core.proofs.feed_lists.all_of.Given as goal

-- the lists so far are those of the results so far
abbrev pub invariant-loop-result : goal.invariant-loop-result
invariant-loop-result l = record {
  stand : l.yielded ≡ map (λ list. Ok list) l.lists.items;
  left : l.fn.results.items ≡ l.yielded ++ l.result-iterator.rest.items;
  many : length l.result-iterator.rest.items ≡ l.result-iterator.rest.len;
}
