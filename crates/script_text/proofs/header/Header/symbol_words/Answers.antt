use Rattle.std.proofs.Common.{arith}
use Rattle.std.proofs.lemmas.Grind.{common_steps}
use Rattle.script_text.proofs.header.Header.symbol_words.Goals as goal

pub returns-in-len3 : goal.returns-in-len3
returns-in-len3 c = grind (arith, common_steps)
