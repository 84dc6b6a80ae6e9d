use Rattle.std.proofs.Common.{rules}
use Rattle.symbol_book.specs.Changes.{ids_after}
use Rattle.eager_meaning.specs.Entering.{on_new}
use Rattle.eager_meaning.specs.Step.{outcome_of}
use Rattle.symbol_book.proofs.admitting.on_new.Goals as goal

pub returns-in-Some-clause-worked : goal.returns-in-Some-clause-worked
unfolding outcome_of on_new ids_after
returns-in-Some-clause-worked g c = search rules
