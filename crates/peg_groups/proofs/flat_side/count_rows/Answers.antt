use Rattle.std.proofs.Common.{◌≡◌, ℕ, ◌+◌, ◌-◌, ◌<◌, true, false, cond, List, length, drop, Some, ap, sym, ◌∙◌, arith, slice_get}
use Rattle.peg_groups.specs.Flat.{is_filled, rows_in}
use Rattle.peg_groups.specs.declared.flat.Place.{Place}
use Rattle.peg_groups.proofs.FlatSteps.{length_place}
use Rattle.peg_groups.proofs.Lists.{drop_at}
use Rattle.peg_groups.proofs.flat_side.count_rows.Goals as goal

-- the rows from one place before
from_before : (places : List Place) (i : ℕ) (place : Place) → 0 < i → slice_get places (i - 1) ≡ Some place → length (rows_in (drop (i - 1) places)) ≡ cond (is_filled place) (length (rows_in (drop i places)) + 1) (length (rows_in (drop i places)))
from_before places i place some at =
    let e : i - 1 + 1 ≡ i = omega arith in
    ap (λ (ps : List Place). length (rows_in ps)) (drop_at places (i - 1) place at)
    ∙ length_place place (drop (i - 1 + 1) places)
    ∙ ap (λ (n : ℕ). cond (is_filled place) (length (rows_in (drop n places)) + 1) (length (rows_in (drop n places)))) e

pub loop-i-preserved-then-is_some : goal.loop-i-preserved-then-is_some
loop-i-preserved-then-is_some c =
    let r = from_before c.args.places.now c.loop-i.i c.place_at.result.now c.loop-i-test.true c.place_at.ensures in
    let filled : is_filled c.place_at.result.now ≡ true = sym c.if-is_some.ensures in
    record {
      within = omega (arith, c.loop-i.invariant.within);
      count_is = ap (λ (n : ℕ). n + 1) c.loop-i.invariant.count_is ∙ sym (rw filled at r);
      few = omega (arith, c.loop-i.invariant.few, c.loop-i-test.true);
    }

pub loop-i-preserved : goal.loop-i-preserved
loop-i-preserved c =
    let r = from_before c.args.places.now c.loop-i.i c.place_at.result.now c.loop-i-test.true c.place_at.ensures in
    let filled : is_filled c.place_at.result.now ≡ false = sym c.if-is_some.ensures in
    record {
      within = omega (arith, c.loop-i.invariant.within);
      count_is = c.loop-i.invariant.count_is ∙ sym (rw filled at r);
      few = omega (arith, c.loop-i.invariant.few, c.loop-i-test.true);
    }
