use Rattle.std.proofs.Common.{rules}
use Rattle.order_fields.specs.Reading.{terms_of}
use Rattle.order_fields.proofs.reading.terms_of.Goals as goal

pub returns : goal.returns
unfolding terms_of
returns c = search rules
