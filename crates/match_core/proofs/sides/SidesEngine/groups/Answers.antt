use Rattle.std.proofs.Common.{arith}
use Rattle.match_core.proofs.KeyCounts.{keys_of_both, keys_fit}
use Rattle.match_core.proofs.sides.SidesEngine.groups.Goals as goal

pub overflow_add-result : goal.overflow_add-result
overflow_add-result g c = omega (arith, keys_fit c.self.inside.latest (g.S.SideBook.state c.self.inside.buys).rows (g.S.SideBook.state c.self.inside.sells).rows c.groups.result c.groups-2.result c.self.invariant.0.rows c.self.invariant.2 c.groups.ensures c.groups-2.ensures)

pub returns : goal.returns
returns g c = rw (← c.self.view_is) (keys_of_both c.self.inside.latest (g.S.SideBook.state c.self.inside.buys).rows (g.S.SideBook.state c.self.inside.sells).rows c.groups.result c.groups-2.result c.self.invariant.0.rows c.groups.ensures c.groups-2.ensures)
