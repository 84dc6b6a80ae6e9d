use Rattle.std.proofs.Common.{◌∙◌, ap, sym}
use Rattle.venue_words.specs.Best.{best_of}
use Rattle.best_prices.proofs.NextLaws.{none_of_empty}
use Rattle.best_prices.proofs.markets.Markets.new.Goals as goal

pub invariant_of-result : goal.invariant_of-result
invariant_of-result c = none_of_empty c.args.markets ∙ ap best_of (sym (c.in_ok-vec.ensures.items_if_clones_equal (λ _ same. same)))
