use Rattle.std.proofs.Common.{◌∙◌}
use Rattle.match_core.proofs.reserving.reserve_both.Goals as goal

pub reserve-requires-in-Buy : goal.reserve-requires-in-Buy
reserve-requires-in-Buy g c = record { key = λ k e. c.requires.key k (c.in-Some.is ∙ e) }

pub reserve-requires-in-Sell-2 : goal.reserve-requires-in-Sell-2
reserve-requires-in-Sell-2 g c = record { key = λ k e. c.requires.key k (c.in-Some.is ∙ e) }
