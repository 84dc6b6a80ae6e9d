use Rattle.std.proofs.Common.{arith, rules}
use Rattle.script_text.specs.Body.{line_of, read_of}
use Rattle.script_text.proofs.Bodies.{key_alone}
use Rattle.script_text.proofs.body.read_line.Goals as goal

pub returns-in-Some-clause-line : goal.returns-in-Some-clause-line
unfolding read_of line_of
returns-in-Some-clause-line c = search rules

pub returns-in-None-clause-line : goal.returns-in-None-clause-line
unfolding read_of line_of
returns-in-None-clause-line c = grind (arith, key_alone)
