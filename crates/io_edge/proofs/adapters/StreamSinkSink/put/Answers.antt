use Rattle.std.proofs.Common.{arith}
use Rattle.std.proofs.lemmas.Result.{err_from_is_err_and}
use Rattle.io_edge.proofs.Written.{front_longer, front_prefix}
use Rattle.io_edge.proofs.adapters.StreamSinkSink.put.Goals as goal

pub returns-in_err-done-clause-bytes : goal.returns-in_err-done-clause-bytes
returns-in_err-done-clause-bytes g c =
    let p = err_from_is_err_and c.from_residual.result c.from_residual.ensures.1 in
    rw p.1 (front_prefix _ _ _ c.args.piece.now c.loop-done.done c.loop-done.invariant.1 c.in_err-done.ensures.bytes)

pub loop-done-preserved : goal.loop-done-preserved
loop-done-preserved g c = (
  omega (arith, c.in_ok-done.ensures.cause.later, c.loop-done.invariant.0),
  front_longer _ _ _ c.args.piece.now c.loop-done.done _ c.loop-done.invariant.1 c.in_ok-done.ensures.bytes,
)
