-- The greatest bid and the least offer so far, and those of the entries that are left.
use Rattle.std.proofs.Common.{◌≡◌, max, min, drop}
use Rattle.std.specs.Prelude.{fold}
use Rattle.venue_words.specs.Best.{either_by, greatest, least}
use Rattle.market_data.specs.Quotes.{bids_of, offers_of}
use Rattle.market_data.proofs.quotes.market_quote.Given as goal

abbrev pub invariant-loop-quote : goal.invariant-loop-quote
invariant-loop-quote l = record {
  bid : greatest (bids_of l.market l.quotes) ≡ fold (either_by max) l.bid (bids_of l.market (drop l.quote-index l.quotes));
  offer : least (offers_of l.market l.quotes) ≡ fold (either_by min) l.offer (offers_of l.market (drop l.quote-index l.quotes));
}
