use Rattle.listing_reader.proofs.Events.{same_event}
use Rattle.listing_reader.proofs.laws.lines_differ_by_event.Goals as goal

pub returns : goal.returns
returns c = same_event
