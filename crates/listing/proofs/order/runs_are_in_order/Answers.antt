use Rattle.listing.proofs.Ordered.{runs_in_order}
use Rattle.listing.proofs.order.runs_are_in_order.Goals as goal

pub returns : goal.returns
returns c = runs_in_order
