-- The gate's clauses, at the symbol's seat.
use Rattle.std.proofs.Common.{◌≡◌, ◌≤◌, ◌+◌, ℤ, List, set, sym, ap, subst, length, IfOk, IfErr, OnErr, to_z, of_z}
use Rattle.std.proofs.lemmas.Int.{to_z-of_z}
use mir.Syntax.{w64}
use Rattle.venue_words.specs.Floors.{CostsAtMost, CostsNothing}
use Rattle.venue_words.specs.Journals.{IfFull, event}
use Rattle.turn_gate.specs.Seats.{GateId, SeatState}
use Rattle.venue_core.specs.Turns.{Submits}
use Rattle.venue_core.specs.Venues.{VenueId}
use Rattle.venue_core.proofs.AtSymbol.{seat_and_gate}
use Rattle.venue_core.proofs.seated.submit_at.Goals as goal

pub returns : goal.returns
returns g c =
    let e = c.submit.ensures in
    let seat = c.index_mut-seat.result.now in
    let passed = c.submit.new.seat in
    let at = seat_and_gate c.args.venue.now.gates c.venue.inside.gates.items c.args.seats.now c.seats.inside.list.items c.args.symbol seat c.index-gate.result.now
    (ap (λ (v : VenueId). v.gates) c.venue.view_is) c.seats.view_is c.requires.seats c.requires.symbol c.index_mut-seat.ensures.value c.index-gate.ensures in
    let its : c.index-gate.result.now ≡ seat.gate = sym at.1 in
    subst (λ (z : ℤ). Submits g.V.Held.step_limit c.args.seats.now (set c.seats.inside.list.items c.args.symbol passed) c.args.symbol c.submit.result c.args.feed z c.args.command.now c.args.steps.now c.submit.new.steps)
    (to_z-of_z w64 c.args.moment c.ranges.moment)
    (record {
      old = seat;
      new = passed;
      turn = record { was = at.0; is = ap (λ (ps : List SeatState). set ps c.args.symbol passed) c.seats.view_is; gate = e.gate; part = e.part; turns = e.turns };
      event_is = e.event;
      number = e.number;
      mine = e.mine;
      room = subst (λ (q : GateId). IfOk c.submit.result (λ n. n ≤ q.limit)) its e.room;
      steps = subst (λ (q : GateId). IfOk c.submit.result (λ n. CostsAtMost (g.V.Held.step_limit q.setting) passed.seen (event n c.args.feed (to_z w64 (of_z w64 c.args.moment)) c.args.command.now) c.args.steps.now c.submit.new.steps)) its e.steps;
      seen = e.seen;
      none_mine = e.none_mine;
      full = subst (λ (q : GateId). IfErr c.submit.result (IfFull (λ found. (found ≡ length passed.seen) × (found ≡ q.limit)))) its e.full;
      idle = subst (λ (q : GateId). OnErr c.submit.result (CostsNothing (g.V.Held.step_limit q.setting) passed.seen (event (length passed.seen + 1) c.args.feed (to_z w64 (of_z w64 c.args.moment)) c.args.command.now) c.args.steps.now c.submit.new.steps)) its e.idle;
    })
