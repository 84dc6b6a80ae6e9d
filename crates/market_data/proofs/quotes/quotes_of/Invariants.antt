-- A quote for each market so far.
use Rattle.std.proofs.Common.{◌≡◌, map, take}
use Rattle.market_data.specs.Quotes.{market_quote}
use Rattle.market_data.proofs.quotes.quotes_of.Given as goal

abbrev pub invariant-loop-market : goal.invariant-loop-market
invariant-loop-market l = l.list ≡ map (market_quote l.quotes) (take l.market-index l.market-items)
