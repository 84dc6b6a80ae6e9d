use Rattle.std.proofs.Common.{arith}
use Rattle.std.proofs.lemmas.Grind.{common_steps}
use Rattle.audit_columns.specs.Resting.{row_cells}
use Rattle.audit_columns.proofs.resting.push_row_cells.Goals as goal

pub returns : goal.returns
unfolding row_cells
returns c = grind (arith, common_steps)
