-- Two proofs that the name is short are the same.
use Rattle.std.proofs.Common.{◌≤◌, length, ap}
use Rattle.std.proofs.Math.Bridge.{le_prop}
use Rattle.feeds_core.specs.declared.status.FeedsStatus.TheVariants.{WriteFault}
use Rattle.feeds_core.specs.declared.telling.RunEnd.{RunEnd}
use Rattle.feeds_core.proofs.telling.RunEndEnding.to_write_fault.Goals as goal

pub returns : goal.returns
returns c =
    let end : length c.args.self.name.now ≤ 16 → RunEnd = λ short. record { status = WriteFault; name = c.args.self.name; short = short } in
    ap end (le_prop _ _)
