use Rattle.match_core.proofs.Changes.{held_is_there}
use Rattle.match_core.proofs.changing.price_in.Goals as goal

pub unreachable-requires : goal.unreachable-requires
unreachable-requires g c = held_is_there _ _ _ _ c.requires.held c.in-None.ensures.found
