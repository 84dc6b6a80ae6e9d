use Rattle.std.proofs.Common.{rules}
use Rattle.program_words.proofs.parse.Goals as goal

pub returns-then-eq-clause-refused : goal.returns-then-eq-clause-refused
returns-then-eq-clause-refused c = search rules
