-- The markets that are named later stand behind those that were named so far.
use Rattle.std.proofs.Common.{◌≡◌, [], ◌++◌, drop}
use Rattle.market_data.specs.Quotes.{first_named, markets_in}
use Rattle.market_data.proofs.quotes.named_markets.Given as goal

abbrev pub invariant-loop-quote : goal.invariant-loop-quote
invariant-loop-quote l = first_named [] (markets_in l.quotes) ≡ l.markets.items ++ first_named l.markets.items (markets_in (drop l.quote-index l.quotes))
