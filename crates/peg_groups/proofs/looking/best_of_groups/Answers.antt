use Rattle.std.proofs.Common.{◌≡◌, map, length, ap, sym, ◌∙◌, arith}
use Rattle.std.proofs.Math.Seq.{take-length}
use Rattle.std.proofs.lemmas.List.{length-map}
use Rattle.peg_groups.specs.BestValue.{highest_of}
use Rattle.peg_groups.proofs.BestValues.{group_best, best-groups, highest-more}
use Rattle.peg_groups.proofs.looking.best_of_groups.Goals as goal

pub loop-i-preserved : goal.loop-i-preserved
loop-i-preserved g c = record {
  best = rw (c.higher-best.ensures, c.best_of_group.ensures, c.loop-i.invariant.best) (sym (highest-more group_best c.args.groups.now.entries c.loop-i.i (c.group_at.ensures.0, c.group_at.result.now) c.group_at.ensures.1));
  ends = c.loop-i.invariant.ends;
  ticks = omega (arith, c.loop-i.invariant.ticks);
}

pub returns-clause-value : goal.returns-clause-value
returns-clause-value g c =
    let all = map group_best c.args.groups.now.entries in
    let n : c.loop-i.i ≡ length all = omega (arith, c.loop-i.invariant.ends, c.loop-i-test.false, length-map c.args.groups.now.entries group_best) in
    c.loop-i.invariant.best ∙ rw n (ap highest_of (take-length all)) ∙ sym (best-groups c.args.groups.now.entries)
