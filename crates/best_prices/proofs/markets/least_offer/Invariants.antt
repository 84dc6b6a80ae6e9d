use Rattle.std.proofs.Common.{◌≡◌, take, map}
use Rattle.venue_words.specs.Best.{least}
use Rattle.best_prices.proofs.markets.least_offer.Given as goal

-- the least of the rows so far
abbrev pub invariant-loop-row : goal.invariant-loop-row
invariant-loop-row l = l.best ≡ least (map (λ row. row.offer) (take l.row-index l.rows))
