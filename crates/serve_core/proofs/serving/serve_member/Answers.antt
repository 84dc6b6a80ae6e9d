-- The first turn, and the session behind it.
use Rattle.std.proofs.Common.{refl, sym, subst, inl, inr}
use Rattle.venue_words.specs.Floors.{FloorMark}
use Rattle.member_gate.specs.Desks.{DeskView}
use Rattle.serve_core.specs.Connections.{served_by}
use Rattle.serve_core.specs.Rounds.{Serves}
use Rattle.serve_core.specs.Sessions.{Session, ground}
use Rattle.serve_core.proofs.Connecting.{serves_new}
use Rattle.serve_core.proofs.serving.serve_member.Goals as goal

pub returns-in-Ok-clause-visits : goal.returns-in-Ok-clause-visits
returns-in-Ok-clause-visits g c =
    let desk = c.args.desk.now in
    let serves : Serves c.open.new.self (served_by desk)
    = subst (λ (d : DeskView). Serves d (served_by desk)) (sym c.open.ensures) (serves_new desk) in
    let took = c.in-Ok.ensures.took (served_by desk) serves in
    let middle = ground c.on_piece.new.floor (g.K.Link.told c.on_piece.new.link) (g.C.Clock.told c.args.clock.now) in
    let after = ground c.take_turns.new.floor (g.K.Link.told c.take_turns.new.link) (g.C.Clock.told c.take_turns.new.clock) in
    inr (record {
      between = c.on_piece.new.desk;
      middle = middle;
      clock = refl;
      took = took;
      session =
          subst (λ (m : FloorMark). Session g.F.Floor.at m c.args.source.config.now c.args.source.feed took.after c.take_turns.result
          c.take_turns.new.desk middle after)
          c.on_piece.ensures.mark (c.take_turns.ensures.session took.after took.serves);
    })

pub returns-in-Err-clause-visits : goal.returns-in-Err-clause-visits
returns-in-Err-clause-visits g c =
    let desk = c.args.desk.now in
    let serves : Serves c.open.new.self (served_by desk)
    = subst (λ (d : DeskView). Serves d (served_by desk)) (sym c.open.ensures) (serves_new desk) in
    inl (refl, c.in-Err.ensures.stopped (served_by desk) serves)
