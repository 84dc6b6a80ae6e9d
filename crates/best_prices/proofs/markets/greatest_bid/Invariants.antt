use Rattle.std.proofs.Common.{◌≡◌, take, map}
use Rattle.venue_words.specs.Best.{greatest}
use Rattle.best_prices.proofs.markets.greatest_bid.Given as goal

-- the greatest of the rows so far
abbrev pub invariant-loop-row : goal.invariant-loop-row
invariant-loop-row l = l.best ≡ greatest (map (λ row. row.bid) (take l.row-index l.rows))
