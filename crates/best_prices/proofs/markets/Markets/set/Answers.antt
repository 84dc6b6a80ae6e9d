use Rattle.std.proofs.Common.{◌∙◌, ap}
use Rattle.venue_words.specs.Best.{best_of}
use Rattle.best_prices.proofs.NextLaws.{quote, next_is, told_change, told_none}
use Rattle.best_prices.proofs.markets.Markets.set.Goals as goal

pub invariant_of-self : goal.invariant_of-self
invariant_of-self c =
    next_is c.self.inside.rows.items c.as_slice-rows.result.now c.args.market c.index-was.result.now (quote c.args.bid c.args.offer) c.self.inside.best c.bid_after.result c.offer_after.result
    (rw c.self.view_is c.requires) c.index-was.ensures c.self.invariant c.as_slice-rows.ensures.value c.bid_after.ensures c.offer_after.ensures

pub returns-clause-changed : goal.returns-clause-changed
returns-clause-changed c =
    told_change c.ne-changed.result (quote c.bid_after.result c.offer_after.result) c.self.inside.best _ _ c.ne-changed.ensures (invariant_of-self c) (c.self.invariant ∙ ap best_of c.self.view_is)

pub returns-clause-unchanged : goal.returns-clause-unchanged
returns-clause-unchanged c =
    told_none c.ne-changed.result (quote c.bid_after.result c.offer_after.result) c.self.inside.best _ _ c.ne-changed.ensures (invariant_of-self c) (c.self.invariant ∙ ap best_of c.self.view_is)
