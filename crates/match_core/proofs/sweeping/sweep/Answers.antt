use Rattle.std.proofs.Common.{◌≡◌, List, vec_len, reverse, refl, ap, ◌∙◌, arith}
use Rattle.std.proofs.lemmas.List.{reverse-reverse}
use Rattle.peg_groups.specs.declared.side_book.Taken.{Taken}
use Rattle.match_core.specs.Aside.{taken_rows}
use Rattle.match_core.specs.Sweeping.{stage_of, rest_of_work}
use Rattle.match_core.proofs.Stages.{stage_begins, room_begins, sweep_ends, few_ends, steps_end}
use Rattle.match_core.proofs.Turns.{filled_full}
use Rattle.match_core.proofs.sweeping.sweep.Goals as goal

back : (items turned : List Taken) → turned ≡ reverse items → reverse turned ≡ items
back items turned e = ap reverse e ∙ reverse-reverse items

pub loop-init : goal.loop-init
loop-init g c = record {
  stage = stage_begins _ _ c.args.scratch.now c.requires.clear c.requires.own_full c.requires.other_full;
  alone = rw c.requires.clear.tried tt;
  out_fit = rw c.requires.clear.tried tt;
  empty = c.requires.clear.aside;
  room = room_begins _ _ c.args.scratch.now c.requires.clear c.requires.room;
  swept = refl;
  few = omega arith;
  more = omega arith;
  capacity = record { fills = refl; aside = refl; tried = refl };
  best = refl;
  event = refl;
  fits = λ s h. h;
  rows = λ k h. h;
  moves = λ h. h;
  width = refl;
  other_best = refl;
  other_event = refl;
  other_fits = λ s h. h;
  other_rows = λ k h. h;
  other_moves = λ h. h;
  other_width = refl;
  most = omega arith;
}

pub loop-smaller : goal.loop-smaller
loop-smaller g c = c.loop-test.ensures.turned.shorter refl

pub loop-preserved : goal.loop-preserved
loop-preserved g c =
    let i = c.loop.invariant in
    let t = c.loop-test.ensures in
    let steps = rw (i.width, i.other_width) at (t.most refl) in
    record {
      stage = t.turned.is;
      alone = t.alone;
      out_fit = t.out_fit;
      empty = t.empty;
      room = t.room;
      swept = i.swept ∙ t.turned.on refl;
      few = omega (arith, i.few, t.turned.few);
      more = omega (arith, i.more, t.turned.more);
      capacity = record { fills = t.capacity.fills ∙ i.capacity.fills; aside = t.capacity.aside ∙ i.capacity.aside; tried = t.capacity.tried ∙ i.capacity.tried };
      best = t.best ∙ i.best;
      event = t.event ∙ i.event;
      fits = λ s h. t.fits s (i.fits s h);
      rows = λ k h. t.rows k (i.rows k h);
      moves = λ h. t.moves (i.moves h);
      width = t.width ∙ i.width;
      other_best = t.other_best ∙ i.other_best;
      other_event = t.other_event ∙ i.other_event;
      other_fits = λ s h. t.other_fits s (i.other_fits s h);
      other_rows = λ k h. t.other_rows k (i.other_rows k h);
      other_moves = λ h. t.other_moves (i.other_moves h);
      other_width = t.other_width ∙ i.other_width;
      most = omega (arith, i.most, steps);
    }

pub returns-clause-swept : goal.returns-clause-swept
returns-clause-swept g c = sweep_ends _ _ c.args.scratch.now (g.S.SideBook.state c.next_taker.new.own).rows (g.S.SideBook.state c.next_taker.new.other).rows c.next_taker.new.scratch (g.S.SideBook.state c.give_back.new.other).rows (reverse c.reverse.new.self.items) c.requires.clear (c.loop.invariant.swept ∙ c.loop-test.ensures.turned.done refl) (back c.next_taker.new.scratch.tried.items c.reverse.new.self.items c.reverse.ensures.items) c.give_back.ensures.put

pub returns-clause-few : goal.returns-clause-few
returns-clause-few g c = few_ends _ _ c.args.scratch.now (g.S.SideBook.state c.next_taker.new.own).rows (g.S.SideBook.state c.next_taker.new.other).rows c.next_taker.new.scratch (g.S.SideBook.state c.give_back.new.other).rows (reverse c.reverse.new.self.items) c.requires.clear (omega (arith, c.loop.invariant.few, c.loop-test.ensures.turned.few)) (back c.next_taker.new.scratch.tried.items c.reverse.new.self.items c.reverse.ensures.items) c.give_back.ensures.put

pub returns-clause-more : goal.returns-clause-more
returns-clause-more g c = omega (arith, c.loop.invariant.more, c.loop-test.ensures.turned.more)

pub returns-clause-own_full : goal.returns-clause-own_full
returns-clause-own_full g c = rw c.give_back.ensures.put (filled_full (taken_rows (reverse c.reverse.new.self.items)) (g.S.SideBook.state c.next_taker.new.own).rows c.loop-test.ensures.turned.is.own_full)

pub returns-clause-most : goal.returns-clause-most
returns-clause-most g c =
    let i = c.loop.invariant in
    let done = rw (i.width, i.other_width) at (c.loop-test.ensures.most_done refl) in
    steps_end _ _ c.args.scratch.now (g.S.SideBook.width c.args.own.now) (g.S.SideBook.width c.args.other.now) (rest_of_work (stage_of (g.S.SideBook.state c.loop.own).rows (g.S.SideBook.state c.loop.other).rows c.loop.scratch)) c.args.steps.now c.loop.steps c.next_taker.new.steps c.give_back.new.steps (vec_len c.loop.scratch.tried) c.next_taker.new.scratch.tried (reverse c.reverse.new.self.items) c.requires.clear i.most done (back c.next_taker.new.scratch.tried.items c.reverse.new.self.items c.reverse.ensures.items) c.give_back.ensures.most
