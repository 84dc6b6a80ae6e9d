use Rattle.std.proofs.Common.{refl, ◌∙◌, ap, length, reverse, arith}
use Rattle.peg_groups.specs.Side.{standing_of, taken_row}
use Rattle.match_core.specs.Aside.{taken_rows, put_filled}
use Rattle.match_core.proofs.SetAside.{taken_map}
use Rattle.match_core.proofs.Trades.{turned, out_back}
use Rattle.match_core.proofs.settling.give_back.Goals as goal

pub loop-taken-preserved : goal.loop-taken-preserved
loop-taken-preserved g c =
    let i = c.loop-taken.invariant in
    let e = turned c.loop-taken.aside.items c.pop.new.self.items c.in-Some.taken c.in-Some.ensures.items in
    let b = c.put_filled_back.ensures in
    record {
      put = ap (put_filled (taken_rows (reverse c.pop.new.self.items))) b.put ∙ (rw e at i.put);
      out = rw b.put (out_back (taken_row c.in-Some.taken) (taken_row c.in-Some.taken) (taken_rows (reverse c.pop.new.self.items)) (g.S.SideBook.state c.loop-taken.other).rows refl (rw e at i.out));
      alone = (rw e at i.alone).1;
      out_fit = taken_map _ _ (λ x h. b.fits (standing_of (taken_row x)) h) (reverse c.pop.new.self.items) (rw e at i.out_fit).1;
      best = b.best ∙ i.best;
      event = b.event ∙ i.event;
      fits = λ s h. b.fits s (i.fits s h);
      rows = λ k h. b.rows k (i.rows k h);
      moves = λ h. b.moves (i.moves h);
      width = b.width ∙ i.width;
      capacity = c.pop.ensures.capacity ∙ i.capacity;
      most = omega (arith, i.most, b.most, ap length e);
    }
