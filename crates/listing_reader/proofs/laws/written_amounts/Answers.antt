use Rattle.listing_reader.proofs.Amounts.{amount_read}
use Rattle.listing_reader.proofs.laws.written_amounts.Goals as goal

pub returns : goal.returns
returns c = amount_read
