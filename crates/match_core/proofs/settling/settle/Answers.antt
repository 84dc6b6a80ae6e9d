use Rattle.std.proofs.Common.{◌≡◌, [], sym, ◌∙◌, ap, length, reverse, arith, rules, subst, ℕ, ◌-◌}
use Rattle.venue_words.specs.declared.row.Priced.{Priced}
use Rattle.eager_meaning.specs.Matching.{row_after}
use Rattle.peg_groups.specs.Side.{standing_of, Standing, taken_row}
use Rattle.match_core.specs.Aside.{taken_rows, put_filled, put_filled_one, finals}
use Rattle.match_core.proofs.SetAside.{taken_map}
use Rattle.match_core.proofs.Trades.{turned, out_back, row_after_entry, row_after_standing, filled_next, filled_end}
use Rattle.match_core.proofs.settling.settle.Goals as goal

pub put_filled_back-requires-clause-absent : goal.put_filled_back-requires-clause-absent
put_filled_back-requires-clause-absent g c =
    let e = turned c.loop-taken.aside.items c.pop.new.self.items c.in-Some.taken c.in-Some.ensures.items in
    rw (ap (λ (p : Priced). p.row.entry) c.trade.ensures.row ∙ row_after_entry c.taken_shares-shares.result (taken_row c.in-Some.taken)) (rw e at c.loop-taken.invariant.out).0

pub put_filled_back-requires-clause-fits : goal.put_filled_back-requires-clause-fits
put_filled_back-requires-clause-fits g c =
    let e = turned c.loop-taken.aside.items c.pop.new.self.items c.in-Some.taken c.in-Some.ensures.items in
    subst (λ (s : Standing). g.S.SideBook.fits c.loop-taken.other s) (sym (ap standing_of c.trade.ensures.row ∙ row_after_standing c.taken_shares-shares.result (taken_row c.in-Some.taken))) (rw e at c.loop-taken.invariant.out_fit).0

pub loop-taken-preserved : goal.loop-taken-preserved
loop-taken-preserved g c =
    let i = c.loop-taken.invariant in
    let e = turned c.loop-taken.aside.items c.pop.new.self.items c.in-Some.taken c.in-Some.ensures.items in
    let b = c.put_filled_back.ensures in
    let x = taken_row c.in-Some.taken in
    let shares = c.taken_shares-shares.ensures.value in
    let p = rw e at i.passes in
    record {
      put = ap (put_filled (finals c.args.t.now (c.loop-taken.left - c.taken_shares-shares.result) (taken_rows (reverse c.pop.new.self.items)))) (b.put ∙ ap (λ (p : Priced). put_filled_one p (g.S.SideBook.state c.loop-taken.other).rows) c.trade.ensures.row)
          ∙ ap (λ (s : ℕ). put_filled (finals c.args.t.now (c.loop-taken.left - s) (taken_rows (reverse c.pop.new.self.items))) (put_filled_one (row_after s x) (g.S.SideBook.state c.loop-taken.other).rows)) shares
          ∙ (rw e at i.put);
      filled = rw (c.push_fill.ensures.items, shares) (filled_next c.args.t.now x c.loop-taken.left (taken_rows (reverse c.pop.new.self.items)) c.loop-taken.fills.items _ p.1.0 p.1.1 (rw e at i.filled));
      out = rw b.put (out_back x (taken_row c.trade.result) (taken_rows (reverse c.pop.new.self.items)) (g.S.SideBook.state c.loop-taken.other).rows (ap (λ (p : Priced). p.row.entry) c.trade.ensures.row ∙ row_after_entry c.taken_shares-shares.result x) (rw e at i.out));
      passes = rw shares (p.0, p.1.2);
      alone = (rw e at i.alone).1;
      out_fit = taken_map _ _ (λ x h. b.fits (standing_of (taken_row x)) h) (reverse c.pop.new.self.items) (rw e at i.out_fit).1;
      room = omega (arith, i.room, c.push_fill.ensures.len, c.push_fill.ensures.capacity, ap length e);
      best = b.best ∙ i.best;
      event = b.event ∙ i.event;
      fits = λ s h. b.fits s (i.fits s h);
      rows = λ k h. b.rows k (i.rows k h);
      moves = λ h. b.moves (i.moves h);
      width = b.width ∙ i.width;
      capacity = c.pop.ensures.capacity ∙ i.capacity;
      fills_capacity = c.push_fill.ensures.capacity ∙ i.fills_capacity;
      most = omega (arith, i.most, b.most, ap length e);
    }

pub returns-clause-filled : goal.returns-clause-filled
returns-clause-filled g c =
    let none : c.loop-taken.aside.items ≡ [] = search rules in
    filled_end c.args.t.now c.loop-taken.left c.loop-taken.fills.items _ (rw none at c.loop-taken.invariant.filled)
