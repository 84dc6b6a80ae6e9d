use Rattle.peg_groups.proofs.NoPass.{roomier_same}
use Rattle.peg_groups.proofs.group_side.reserve_missing.Goals as goal

pub returns-then-all_roomy-clause-kept : goal.returns-then-all_roomy-clause-kept
returns-then-all_roomy-clause-kept c = roomier_same c.args.groups.now.entries
