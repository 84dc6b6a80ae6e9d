use Rattle.std.proofs.Common.{refl}
use Rattle.venue_words.specs.Best.{greatest, least}
use Rattle.venue_words.specs.BestLaws.{greatest_is_meant, least_is_meant}
use Rattle.market_data.specs.Quotes.{bids_of, offers_of}
use Rattle.market_feed_laws.proofs.laws.quotes_are_best.Goals as goal

pub returns : goal.returns
returns c = λ quotes market. record {
  bid = greatest (bids_of market quotes);
  offer = least (offers_of market quotes);
  command_is = refl;
  greatest = greatest_is_meant (bids_of market quotes);
  least = least_is_meant (offers_of market quotes);
}
