use Rattle.std.proofs.Common.{◌<◌, ◌∙◌, sym, arith, add-one}
use Rattle.venue_words.specs.Conditions.{IsKey}
use Rattle.peg_groups.specs.Groups.{IsMoved}
use Rattle.peg_groups.proofs.Paired.{paired_at, paired_more, paired_len, paired_end, each_at}
use Rattle.peg_groups.proofs.pricing.reprice_groups.Goals as goal

pub reprice_at-requires-clause-within : goal.reprice_at-requires-clause-within
reprice_at-requires-clause-within g c = omega (arith, c.loop-i-test.true, c.loop-i.invariant.ends, paired_len (IsMoved c.args.event c.args.best) c.loop-i.i c.args.groups.now.entries c.loop-i.groups.entries c.loop-i.invariant.moved)

pub reprice_at-requires-clause-room : goal.reprice_at-requires-clause-room
reprice_at-requires-clause-room g c = λ key group h.
    each_at (λ key group. IsKey key × (0 < group.moves.room) × (group.moves.latest < c.args.event)) c.args.groups.now.entries c.loop-i.i key group c.requires.room (sym (paired_at (IsMoved c.args.event c.args.best) c.loop-i.i c.args.groups.now.entries c.loop-i.groups.entries c.loop-i.invariant.moved) ∙ h)

pub loop-i-preserved : goal.loop-i-preserved
loop-i-preserved g c =
    let m = c.reprice_at.ensures.moved in
    record {
      moved = rw (add-one, m.4) (paired_more (IsMoved c.args.event c.args.best) c.loop-i.i c.args.groups.now.entries c.loop-i.groups.entries m.0 m.1 m.2 c.loop-i.invariant.moved m.3 m.5);
      ends = c.loop-i.invariant.ends;
      ticks = omega (arith, c.loop-i.invariant.ticks, c.reprice_at.ensures.ticks);
      most = omega (arith, c.loop-i.invariant.most, c.reprice_at.ensures.most);
    }

pub returns-clause-moved : goal.returns-clause-moved
returns-clause-moved g c = paired_end (IsMoved c.args.event c.args.best) c.loop-i.i c.args.groups.now.entries c.loop-i.groups.entries (omega (arith, c.loop-i-test.false, c.loop-i.invariant.ends, c.loop-i.auto.i-end)) c.loop-i.invariant.moved
