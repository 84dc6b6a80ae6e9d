use Rattle.std.proofs.Common.{rules}
use Rattle.std.proofs.lemmas.List.Elements.{filter_from_retain}
use Rattle.peg_groups.specs.Flat.{is_filled}
use Rattle.peg_groups.proofs.flat_side.drop_free.Goals as goal

pub returns-clause-items : goal.returns-clause-items
returns-clause-items g c = filter_from_retain _ is_filled (λ p x b q call. search rules) _ _ _ c.retain.ensures.filtered
