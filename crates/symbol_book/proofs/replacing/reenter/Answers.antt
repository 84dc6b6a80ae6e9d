use Rattle.std.proofs.Common.{ap, length, arith}
use Rattle.symbol_book.proofs.Bounds.{few_without}
use Rattle.symbol_book.proofs.replacing.reenter.Goals as goal

-- no more rows rest once one was taken out
pub enter-requires-clause-few : goal.enter-requires-clause-few
enter-requires-clause-few g c =
    let few = c.requires.agree.few in
    omega (arith, few, ap length c.cut.ensures.buys, ap length c.cut.ensures.sells, few_without c.args.named.found.row.entry (g.E.Engine.buys c.args.parts.now.engine), few_without c.args.named.found.row.entry (g.E.Engine.sells c.args.parts.now.engine))

pub enter-requires-clause-room : goal.enter-requires-clause-room
enter-requires-clause-room g c =
    let places = c.requires.places.places in
    let copies = c.requires.places.copies in (
      omega (arith, places, ap length c.cut.ensures.buys, ap length c.cut.ensures.sells, few_without c.args.named.found.row.entry (g.E.Engine.buys c.args.parts.now.engine), few_without c.args.named.found.row.entry (g.E.Engine.sells c.args.parts.now.engine)),
      omega (arith, copies, ap length c.cut.ensures.buys, ap length c.cut.ensures.sells, few_without c.args.named.found.row.entry (g.E.Engine.buys c.args.parts.now.engine), few_without c.args.named.found.row.entry (g.E.Engine.sells c.args.parts.now.engine)),
    )
