use Rattle.std.proofs.Common.{◌≡◌}
use Rattle.live_edge.proofs.desk.Desk.begin_markets.Given as goal

abbrev pub invariant-loop-market : goal.invariant-loop-market
invariant-loop-market g l = l.self ≡ record l.initial.self { markets = l.self.markets; now = l.self.now; clock = l.self.clock }

abbrev pub invariant-loop-line : goal.invariant-loop-line
invariant-loop-line g l = l.self ≡ record l.initial.self { markets = l.self.markets; now = l.self.now; clock = l.self.clock }
