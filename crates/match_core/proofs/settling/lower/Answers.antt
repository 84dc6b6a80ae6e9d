use Rattle.std.proofs.Common.{ap, arith}
use Rattle.peg_groups.specs.Side.{taken_row}
use Rattle.match_core.proofs.Trades.{row_after_none, row_after_some}
use Rattle.match_core.proofs.settling.lower.Goals as goal

pub returns-then-shares-gt0-clause-row : goal.returns-then-shares-gt0-clause-row
returns-then-shares-gt0-clause-row c = row_after_some c.args.shares (taken_row c.args.taken.now) _ _ c.if-shares-gt0.true (ap (λ p. p.row) c.deref_mut.ensures.value) c.fill.ensures.row

pub returns-else-shares-gt0-clause-row : goal.returns-else-shares-gt0-clause-row
returns-else-shares-gt0-clause-row c = row_after_none c.args.shares (taken_row c.args.taken.now) (omega (arith, c.if-shares-gt0.false))
