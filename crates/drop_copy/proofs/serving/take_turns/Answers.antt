-- Whole turns go on; the last one ends the connection, or a pull failed.
use Rattle.std.proofs.Common.{◌≡◌, ℕ, Ok, refl, ◌∙◌, subst, inl, inr, arith}
use Rattle.venue_words.specs.Floors.{FloorMark}
use Rattle.io_edge.specs.Links.{CountsEnds}
use Rattle.io_edge.specs.declared.link.Pulled.{Pulled}
use Rattle.io_edge.specs.declared.link.Pulled.TheVariants.{Bytes, Quiet, End}
use Rattle.session_core.specs.Machine.{IsUp}
use Rattle.link_work.specs.Turns.{turn_of}
use Rattle.drop_copy.specs.Sessions.{StoppedTurn, TookTurn, ground}
use Rattle.drop_copy.proofs.Connections.{so_far_none, so_far_more}
use Rattle.drop_copy.proofs.serving.take_turns.Goals as goal

-- a pull that brought no end counts none
not_ended : (pulled : Pulled) (before now : ℕ) → (pulled ≡ End → ⊥) → CountsEnds before now (Ok pulled) → now ≡ before
not_ended (Bytes n) before now h e = e
not_ended Quiet before now h e = e
not_ended End before now h e = absurd (h refl)

pub turns-init : goal.turns-init
turns-init g c =
    let down : IsUp c.args.desk.now.session → ⊥ = λ up. (cc) in record {
      so_far =
          so_far_none g.F.Floor.at (g.F.Floor.reports_in (g.F.Floor.mark c.args.floor.now)) c.args.config.now c.args.desk.now
          (ground c.args.floor.now (g.K.Link.told c.args.link.now) (g.C.Clock.told c.args.clock.now)) down;
      mark = refl;
      later = omega arith;
      ends = refl;
    }

pub returns-in-Err-clause-connection : goal.returns-in-Err-clause-connection
returns-in-Err-clause-connection g c = record {
  stop = c.turns.desk;
  middle = ground c.turns.floor (g.K.Link.told c.turns.link) (g.C.Clock.told c.turns.clock);
  so_far = c.turns.invariant.so_far;
  ends = inl (record {
    end_is = inl refl;
    desk_is = refl;
    ground_is = λ k. ground c.turns.floor (c.in-Err.ensures.asked.0 k) (c.in-Err.ensures.asked.1 k);
  });
}

pub turns-preserved : goal.turns-preserved
turns-preserved g c =
    let at = g.F.Floor.at in
    let config = c.args.config.now in
    let turn = turn_of c.in-Ok.asked c.ask.new.buffer in
    let inv = c.turns.invariant in
    let going : c.in-Ok.asked.pulled ≡ End → ⊥ = λ e. let refused = c.take_turn.ensures.ended e in (cc) in
    let took = subst (λ (k : FloorMark). TookTurn at (g.F.Floor.reports_in k) config turn c.turns.desk c.take_turn.new.desk c.turns.floor c.take_turn.new.floor (g.K.Link.told c.ask.new.link) (g.K.Link.told c.take_turn.new.link))
    inv.mark c.in-Ok-take_turn.ensures.took in record {
      so_far =
          so_far_more at (g.F.Floor.reports_in (g.F.Floor.mark c.args.floor.now)) config c.args.desk.now c.turns.desk c.take_turn.new.desk
          (ground c.args.floor.now (g.K.Link.told c.args.link.now) (g.C.Clock.told c.args.clock.now)) c.turns.floor c.take_turn.new.floor
          (g.K.Link.told c.turns.link) (g.K.Link.told c.ask.new.link) (g.K.Link.told c.take_turn.new.link) (g.C.Clock.told c.turns.clock) (g.C.Clock.told c.ask.new.clock) turn
          inv.so_far c.in-Ok.ensures.asked took;
      mark = c.take_turn.ensures.mark ∙ inv.mark;
      later = omega (arith, inv.later, c.ask.ensures.cause.later, c.take_turn.ensures.later);
      ends = c.take_turn.ensures.counted ∙ not_ended c.in-Ok.asked.pulled _ _ going c.in-Ok.ensures.end ∙ inv.ends;
    }

pub returns-in-Err-take_turn-clause-connection : goal.returns-in-Err-take_turn-clause-connection
returns-in-Err-take_turn-clause-connection g c =
    let turn = turn_of c.in-Ok.asked c.ask.new.buffer in record {
      stop = c.turns.desk;
      middle = ground c.turns.floor (g.K.Link.told c.turns.link) (g.C.Clock.told c.turns.clock);
      so_far = c.turns.invariant.so_far;
      ends = inr (record {
        turn = turn;
        asked = g.K.Link.told c.ask.new.link;
        told = c.in-Ok.ensures.asked;
        stopped = subst (λ (k : FloorMark). StoppedTurn g.F.Floor.at (g.F.Floor.reports_in k) c.args.config.now turn c.turns.desk c.in-Err-take_turn.end c.take_turn.new.desk c.turns.floor c.take_turn.new.floor
            (g.K.Link.told c.ask.new.link) (g.K.Link.told c.take_turn.new.link)) c.turns.invariant.mark c.in-Err-take_turn.ensures.stopped;
      });
    }
