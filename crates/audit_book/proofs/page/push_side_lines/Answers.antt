use Rattle.std.proofs.Common.{arith}
use Rattle.std.proofs.lemmas.Grind.{common_steps}
use Rattle.audit_book.specs.Books.{side_lines}
use Rattle.audit_book.proofs.page.push_side_lines.Goals as goal

pub returns : goal.returns
unfolding side_lines
returns c = grind (arith, common_steps)
