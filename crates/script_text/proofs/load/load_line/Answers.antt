use Rattle.std.proofs.Common.{arith}
use Rattle.script_text.proofs.Loads.{by_number}
use Rattle.script_text.proofs.load.load_line.Goals as goal

pub returns-then-behind-orders : goal.returns-then-behind-orders
returns-then-behind-orders c = grind (arith, by_number)

pub returns-then-behind-orders-2 : goal.returns-then-behind-orders-2
returns-then-behind-orders-2 c = grind (arith, by_number)

pub returns-then-behind-orders-3 : goal.returns-then-behind-orders-3
returns-then-behind-orders-3 c = grind (arith, by_number)

pub returns-else-behind-orders-3 : goal.returns-else-behind-orders-3
returns-else-behind-orders-3 c = grind (arith, by_number)
