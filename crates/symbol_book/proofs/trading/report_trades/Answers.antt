use Rattle.std.proofs.Common.{arith}
use Rattle.std.proofs.lemmas.Grind.{common_steps}
use Rattle.eager_meaning.specs.Trades.{orders_after_all, trade_notices}
use Rattle.symbol_book.proofs.trading.report_trades.Goals as goal

pub loop-fill-preserved : goal.loop-fill-preserved
unfolding trade_notices orders_after_all
loop-fill-preserved c = grind (arith, common_steps)
