use Rattle.std.proofs.Common.{arith}
use Rattle.match_core.proofs.SideRows.{rows_fit}
use Rattle.match_core.proofs.sides.SidesEngine.len.Goals as goal

pub overflow_add-result : goal.overflow_add-result
overflow_add-result g c = omega (arith, c.len.ensures, c.len-2.ensures, rows_fit c.self.inside.latest (g.S.SideBook.state c.self.inside.buys).rows (g.S.SideBook.state c.self.inside.sells).rows c.self.invariant.0.rows c.self.invariant.2)
