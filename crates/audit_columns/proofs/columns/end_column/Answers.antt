use Rattle.std.proofs.Common.{arith, ◌-◌}
use Rattle.audit_columns.proofs.Padding.{blank_on}
use Rattle.audit_columns.proofs.columns.end_column.Goals as goal

pub loop-place-preserved : goal.loop-place-preserved
loop-place-preserved c =
    blank_on c.args.out.now.items c.loop-place.out.items c.push.new.self.items (c.loop-place._place - (c.len.result - c.args.start)) _
    c.loop-place.invariant c.in_ok-push.ensures.items (omega arith)

pub returns : goal.returns
returns c =
    blank_on c.args.out.now.items c.loop-place.out.items c.push-2.new.self.items (c.loop-place._place - (c.len.result - c.args.start)) _
    c.loop-place.invariant c.in_ok-push-2.ensures.items (omega arith)
