use Rattle.std.proofs.Common.{arith}
use Rattle.peg_groups.specs.Flat.{repriced}
use Rattle.peg_groups.proofs.Mapped.{set-mapped}
use Rattle.peg_groups.proofs.flat.reprice_in.Goals as goal

pub loop-place-preserved : goal.loop-place-preserved
loop-place-preserved g c = record {
  changed = set-mapped (repriced c.args.event c.args.best) c.loop-place.place-index c.args.places.now c.loop-place.places _ c.place-item.result c.loop-place.invariant.changed (omega arith) c.reprice.ensures;
  ticks = omega arith;
}
