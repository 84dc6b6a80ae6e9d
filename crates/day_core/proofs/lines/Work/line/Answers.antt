use Rattle.day_core.proofs.Stepping.{line_meets, line_steps}
use Rattle.day_core.proofs.lines.Work.line.Goals as goal

pub returns-clause-answer : goal.returns-clause-answer
returns-clause-answer g c place there line =
    line_meets g.F.Floor.at c.args.self.now.phase c.turn-worked.new.phase c.args.line.number c.args.line.text.now c.turn-worked.new.out.items
    c.args.line.is_over c.turn-worked.result c.weigh.result c.requires.short c.turn-worked.ensures.answer c.weigh.ensures place there line

pub returns-clause-steps : goal.returns-clause-steps
returns-clause-steps g c place there line =
    line_steps g.F.Floor.at c.args.self.now.phase c.args.line.number c.args.line.text.now c.args.line.is_over c.args.steps.now c.turn-worked.new.steps
    c.requires.short c.turn-worked.ensures.steps place there line
