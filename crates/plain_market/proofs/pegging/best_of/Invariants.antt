use Rattle.std.proofs.Common.{◌≡◌, take}
use Rattle.venue_words.specs.Best.{best_of}
use Rattle.plain_market.proofs.pegging.best_of.Given as goal

-- the best of the rows so far
abbrev pub invariant-loop-row : goal.invariant-loop-row
invariant-loop-row l = l.best ≡ best_of (take l.row-index l.rows)
