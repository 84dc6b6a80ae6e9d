use Rattle.std.proofs.Common.{rules}
use Rattle.market_data.specs.Entries.{entry_type}
use Rattle.market_data.proofs.entries.entry_type.Goals as goal

pub returns-then-is_value_in-3 : goal.returns-then-is_value_in-3
unfolding entry_type
returns-then-is_value_in-3 c = search rules

pub returns-else-is_value_in-3 : goal.returns-else-is_value_in-3
unfolding entry_type
returns-else-is_value_in-3 c = search rules
