use Rattle.std.proofs.Common.{ℕ, List, length, slice_index, ap, arith}
use Rattle.feeds_core.specs.Books.{count_at}
use Rattle.feeds_core.specs.FeedLists.{asked_in}
use Rattle.feeds_core.proofs.Summing.{over_first, over_none}
use Rattle.feeds_core.proofs.sums.first_full.Goals as goal

pub returns-then-from-count_at-clause-first : goal.returns-then-from-count_at-clause-first
returns-then-from-count_at-clause-first c =
    let size = ap (length {A = ℕ}) c.as_slice-limits.ensures in
    let limit = ap (λ (ls : List ℕ). slice_index ls c.loop-symbol.symbol) c.as_slice-limits.ensures in
    over_first c.args.config.now.limits (λ symbol. count_at symbol (asked_in c.args.lists.now)) c.loop-symbol.symbol
    (omega (arith, size, c.loop-symbol-test.true))
    (λ j small. let at = ap (λ (ls : List ℕ). slice_index ls j) c.as_slice-limits.ensures in omega (arith, at, c.loop-symbol.invariant j small))
    (omega (arith, limit, c.from.ensures, c.count_at.ensures, c.if-from-count_at.true))

pub returns-clause-first : goal.returns-clause-first
returns-clause-first c =
    let size = ap (length {A = ℕ}) c.as_slice-limits.ensures in
    over_none c.args.config.now.limits (λ symbol. count_at symbol (asked_in c.args.lists.now)) c.loop-symbol.symbol
    (omega (arith, size, c.loop-symbol-test.false))
    (λ j small. let at = ap (λ (ls : List ℕ). slice_index ls j) c.as_slice-limits.ensures in omega (arith, at, c.loop-symbol.invariant j small))
