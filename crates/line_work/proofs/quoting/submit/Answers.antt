use Rattle.std.proofs.Common.{◌≡◌, w64, to_z, of_z, rules}
use Rattle.line_work.proofs.Submitted.{took_just}
use Rattle.line_work.proofs.quoting.submit.Goals as goal

pub returns-in-Ok-clause-took : goal.returns-in-Ok-clause-took
returns-in-Ok-clause-took g c =
    let moment : to_z w64 (of_z w64 c.args.moment) ≡ c.args.moment = search rules in
    took_just g.F.Floor.at g.F.Floor.step_limit (g.F.Floor.mark c.args.floor.now) c.args.feed _ c.args.moment
    (record { symbol = c.args.symbol; command = c.args.command.now }) c.in-Ok.field-0 (c.args.floor.now, c.args.steps.now)
    (c.submit.new.self, c.submit.new.steps) moment c.in-Ok.ensures.records c.in-Ok.ensures.room c.submit.ensures.reports
    c.in-Ok.ensures.turns c.submit.ensures.others c.in-Ok.ensures.steps
