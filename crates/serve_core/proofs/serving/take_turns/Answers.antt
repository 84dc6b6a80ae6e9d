-- One more turn was taken, or it was the last one.
use Rattle.std.proofs.Common.{◌≡◌, ℤ, List, Option, refl, ◌∙◌, ap, subst, arith, inl, inr, w64, to_z, of_z, rules}
use Rattle.venue_words.specs.Floors.{FloorMark}
use Rattle.io_edge.specs.Links.{Told, answer_of}
use Rattle.link_work.specs.Turns.{LinkTurn, turn_of}
use Rattle.serve_core.specs.Sessions.{TurnEnds, ground}
use Rattle.serve_core.specs.Turning.{TookTurn}
use Rattle.serve_core.proofs.Connecting.{no_more_ends}
use Rattle.serve_core.proofs.SessionLaws.{so_far_none, so_far_more}
use Rattle.serve_core.proofs.serving.take_turns.Goals as goal

pub turns-init : goal.turns-init
turns-init g c = record {
  mark = refl;
  member = refl;
  later = omega arith;
  ends = refl;
  so_far = λ start x. so_far_none g.F.Floor.at c.args.source.config.now c.args.source.feed start c.args.desk.now
      (ground c.args.floor.now (g.K.Link.told c.args.link.now) (g.C.Clock.told c.args.clock.now)) x;
}

pub returns-in-Err-clause-session : goal.returns-in-Err-clause-session
returns-in-Err-clause-session g c start x =
    let asked = c.in-Err.ensures.asked in
    let link = g.K.Link.told c.turns.link in
    let clock = g.C.Clock.told c.turns.clock in record {
      last = c.turns.desk;
      middle = ground c.turns.floor link clock;
      so_far = c.turns.invariant.so_far start x;
      ends = inl (
        refl,
        ap (λ (l : Option Told). ground c.turns.floor l (g.C.Clock.told c.ask.new.clock)) asked.0
            ∙ ap (λ (m : Option (List ℤ)). ground c.turns.floor link m) asked.1,
      );
    }

pub turns-preserved : goal.turns-preserved
turns-preserved g c =
    let inv = c.turns.invariant in
    let buffer = c.ask.new.buffer in
    let e : to_z w64 (of_z w64 c.in-Ok.asked.moment) ≡ c.in-Ok.asked.moment = search rules in
    let turn : LinkTurn = turn_of c.in-Ok.asked buffer in record {
      mark = c.take_turn.ensures.mark ∙ inv.mark;
      member = c.take_turn.ensures.member ∙ inv.member;
      later =
          (let h = inv.later in let k = c.ask.ensures.cause.later in let l = c.take_turn.ensures.later in omega arith);
      ends =
          c.take_turn.ensures.counted
          ∙ no_more_ends _ _ c.in-Ok.asked.pulled c.in-Ok.ensures.end
          (λ e. let peer = c.take_turn.ensures.ended e in let ok = c.in-Ok-take_turn.is in cc) ∙ inv.ends;
      so_far = λ start x.
          let so = inv.so_far start x in
          let took =
          subst (λ (m : ℤ). TookTurn g.F.Floor.at c.args.source.config.now c.args.source.feed
          (record { answer = answer_of c.in-Ok.asked.pulled buffer; moment = m }) so.stop c.take_turn.new.desk c.turns.floor
          c.take_turn.new.floor (g.K.Link.told c.ask.new.link) (g.K.Link.told c.take_turn.new.link))
          e (c.in-Ok-take_turn.ensures.took so.stop so.serves) in
          so_far_more g.F.Floor.at c.args.source.config.now c.args.source.feed start c.turns.desk c.take_turn.new.desk
          (ground c.args.floor.now (g.K.Link.told c.args.link.now) (g.C.Clock.told c.args.clock.now))
          c.turns.floor c.take_turn.new.floor (g.K.Link.told c.turns.link) (g.K.Link.told c.ask.new.link)
          (g.K.Link.told c.take_turn.new.link) (g.C.Clock.told c.turns.clock) (g.C.Clock.told c.ask.new.clock) turn so
          c.in-Ok.ensures.asked took;
    }

pub returns-in-Err-take_turn-clause-session : goal.returns-in-Err-take_turn-clause-session
returns-in-Err-take_turn-clause-session g c start x =
    let inv = c.turns.invariant in
    let buffer = c.ask.new.buffer in
    let e : to_z w64 (of_z w64 c.in-Ok.asked.moment) ≡ c.in-Ok.asked.moment = search rules in
    let turn : LinkTurn = turn_of c.in-Ok.asked buffer in
    let so = inv.so_far start x in record {
      last = c.turns.desk;
      middle = ground c.turns.floor (g.K.Link.told c.turns.link) (g.C.Clock.told c.turns.clock);
      so_far = so;
      ends = inr (record {
        turn = turn;
        asked = g.K.Link.told c.ask.new.link;
        told = c.in-Ok.ensures.asked;
        ends =
            subst (λ (m : FloorMark). TurnEnds g.F.Floor.at m c.args.source.config.now c.args.source.feed turn so.stop c.in-Err-take_turn.end
            c.take_turn.new.desk c.turns.floor c.take_turn.new.floor (g.K.Link.told c.ask.new.link) (g.K.Link.told c.take_turn.new.link))
            inv.mark
            (subst (λ (m : ℤ). TurnEnds g.F.Floor.at (g.F.Floor.mark c.turns.floor) c.args.source.config.now c.args.source.feed
            (record { answer = answer_of c.in-Ok.asked.pulled buffer; moment = m }) so.stop c.in-Err-take_turn.end
            c.take_turn.new.desk c.turns.floor c.take_turn.new.floor (g.K.Link.told c.ask.new.link) (g.K.Link.told c.take_turn.new.link))
            e (c.in-Err-take_turn.ensures.ends so.stop so.serves));
      });
    }

-- no fault of the link is taken back

pub returns-in-Err-clause-later : goal.returns-in-Err-clause-later
returns-in-Err-clause-later g c = let h = c.turns.invariant.later in let k = c.ask.ensures.cause.later in omega arith

pub returns-in-Err-take_turn-clause-later : goal.returns-in-Err-take_turn-clause-later
returns-in-Err-take_turn-clause-later g c =
    let h = c.turns.invariant.later in let k = c.ask.ensures.cause.later in let l = c.take_turn.ensures.later in omega arith
