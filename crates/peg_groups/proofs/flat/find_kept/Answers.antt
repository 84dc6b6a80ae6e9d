use Rattle.std.proofs.Common.{◌≡◌, true, false}
use Rattle.peg_groups.specs.Flat.{place_standing}
use Rattle.peg_groups.specs.Side.{standing_of}
use Rattle.peg_groups.specs.declared.flat.Place.{Place}
use Rattle.peg_groups.proofs.Lists.{take_more}
use Rattle.peg_groups.proofs.flat.find_kept.Goals as goal

pub loop-i-preserved : goal.loop-i-preserved
loop-i-preserved c = take_more (λ (place : Place). place_standing place ≡ standing_of (record { row = c.args.row; value = c.args.value; time = c.args.time }) → ⊥) c.args.places.now c.loop-i.i c.place_at.result.now c.loop-i.invariant c.place_at.ensures (λ e. let t : false ≡ true = c.if-keeps.ensures.1 e in cc)
