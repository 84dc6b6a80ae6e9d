use Rattle.std.proofs.Common.{rules}
use Rattle.symbol_book.proofs.ids.put.Goals as goal

pub returns-in-Ok-Occupied-clause-found : goal.returns-in-Ok-Occupied-clause-found
returns-in-Ok-Occupied-clause-found c = search rules

pub returns-in-Ok-Occupied-clause-one : goal.returns-in-Ok-Occupied-clause-one
returns-in-Ok-Occupied-clause-one c = search rules
