use Rattle.std.proofs.Common.{arith}
use Rattle.std.proofs.lemmas.Grind.{common_steps}
use Rattle.exec_reports.specs.Texts.{price_text}
use Rattle.exec_reports.proofs.texts.push_price.Goals as goal

pub returns : goal.returns
unfolding price_text
returns c = grind (arith, common_steps)
