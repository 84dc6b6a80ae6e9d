use Rattle.std.proofs.Common.{◌≡◌, map, length, ap, sym, ◌∙◌, arith}
use Rattle.std.proofs.Math.Seq.{take-length}
use Rattle.std.proofs.lemmas.List.{length-map}
use Rattle.peg_groups.specs.BestValue.{highest_of}
use Rattle.peg_groups.specs.Flat.{place_value}
use Rattle.peg_groups.proofs.BestValues.{best-places, highest-more}
use Rattle.peg_groups.proofs.flat_best.best_of_places.Goals as goal

pub loop-i-preserved : goal.loop-i-preserved
loop-i-preserved g c = record {
  best = rw (c.higher-best.ensures, c.active_value.ensures, c.loop-i.invariant.best) (sym (highest-more place_value c.args.places.now c.loop-i.i c.place_at.result.now c.place_at.ensures));
  ticks = omega (arith, c.loop-i.invariant.ticks, c.tick.ensures);
}

pub returns-clause-value : goal.returns-clause-value
returns-clause-value g c =
    let all = map place_value c.args.places.now in
    let n : c.loop-i.i ≡ length all = omega (arith, c.loop-i-test.false, length-map c.args.places.now place_value) in
    c.loop-i.invariant.best ∙ rw n (ap highest_of (take-length all)) ∙ sym (best-places c.args.places.now)
