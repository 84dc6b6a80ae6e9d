use Rattle.std.proofs.Common.{ℕ, ◌+◌, ◌≤◌, ◌-◌, ◌/◌, arith}
use Rattle.move_history.specs.Kept.{low_at}
use Rattle.move_history.proofs.Halving.{few_halvings, halve}
use Rattle.move_history.proofs.Rising.{rising-le}
use Rattle.move_history.proofs.kept.count_below.Goals as goal

pub loop-start-preserved-then-kept-middle : goal.loop-start-preserved-then-kept-middle
loop-start-preserved-then-kept-middle g c =
    let few = few_halvings (c.loop-start.steps - c.args.steps.now) (c.loop-start.end - c.loop-start.start) _ (omega arith) c.loop-start.invariant.halved c.loop-start.invariant.fits in
    let middle : ℕ = c.loop-start.start + (c.loop-start.end - c.loop-start.start) / 2 in
    record {
      order = omega arith;
      within = omega arith;
      below = λ i h. let r : low_at c.args.kept.now i ≤ low_at c.args.kept.now middle = rising-le c.args.kept.now c.requires.rising i middle (omega arith) (omega arith) in omega arith;
      above = c.loop-start.invariant.above;
      counted = omega arith;
      some = λ e. omega arith;
      most = omega (arith, few);
      fits = c.loop-start.invariant.fits;
      halved = halve (c.loop-start.steps - c.args.steps.now) _ (c.loop-start.end - c.loop-start.start) _ _ (omega arith) c.loop-start.invariant.halved (omega arith);
    }

pub loop-start-preserved : goal.loop-start-preserved
loop-start-preserved g c =
    let few = few_halvings (c.loop-start.steps - c.args.steps.now) (c.loop-start.end - c.loop-start.start) _ (omega arith) c.loop-start.invariant.halved c.loop-start.invariant.fits in
    let middle : ℕ = c.loop-start.start + (c.loop-start.end - c.loop-start.start) / 2 in
    record {
      order = omega arith;
      within = omega arith;
      below = c.loop-start.invariant.below;
      above = λ i h k. let r : low_at c.args.kept.now middle ≤ low_at c.args.kept.now i = rising-le c.args.kept.now c.requires.rising middle i (omega arith) k in omega arith;
      counted = omega arith;
      some = λ e. omega arith;
      most = omega (arith, few);
      fits = c.loop-start.invariant.fits;
      halved = halve (c.loop-start.steps - c.args.steps.now) _ (c.loop-start.end - c.loop-start.start) _ _ (omega arith) c.loop-start.invariant.halved (omega arith);
    }
