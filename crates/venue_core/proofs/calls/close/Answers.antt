-- The seat that is next is that of the gate that is next.
use Rattle.std.proofs.Common.{◌≡◌, ◌∷◌, map, length, sym, ap, ◌∙◌, subst, arith}
use Rattle.std.specs.List.{All}
use Rattle.std.proofs.lemmas.List.Elements.{All-head, All-tail}
use Rattle.turn_gate.specs.Rule.{whole}
use Rattle.turn_gate.specs.Seats.{GateId, SeatState}
use Rattle.venue_core.specs.Closing.{IsBookOf}
use Rattle.venue_core.proofs.Closes.{one_more}
use Rattle.venue_core.proofs.calls.close.Goals as goal

abbrev IsWhole : SeatState → Type 0
IsWhole seat = seat.part ≡ whole

pub close-requires-clause-part : goal.close-requires-clause-part
close-requires-clause-part g c =
    All-head IsWhole c.in-Some-next.seat c.next-in-loop-gate.new.self.rest.items (subst (All IsWhole) c.in-Some-next.ensures.items c.loop-gate.invariant.2)

pub loop-gate-preserved : goal.loop-gate-preserved
loop-gate-preserved g c =
    let inv = c.loop-gate.invariant in
    let seats = c.in-Some-next.ensures.items in
    let gates = c.in-Some.ensures.steps.0 in
    let are : (c.in-Some-next.seat.gate ∷ map (λ (seat : SeatState). seat.gate) c.next-in-loop-gate.new.self.rest.items) ≡ c.in-Some.gate ∷ c.next.new.self.rest.items
    = sym (ap (map (λ (seat : SeatState). seat.gate)) seats) ∙ (inv.1 ∙ gates) in
    let gate : c.in-Some-next.seat.gate ≡ c.in-Some.gate = (cc) in
    let e = c.close.ensures in
    let push = c.push_reserved.ensures in (
      one_more (IsBookOf g.V.Held.journal g.V.Held.limit g.V.Held.setting) c.args.seats.items c.loop-gate.seats.rest.items c.next-in-loop-gate.new.self.rest.items c.loop-gate.books.items c.push_reserved.new.self.items
          c.in-Some-next.seat c.close.result inv.0 seats push.items
          (record { limit = e.limit ∙ ap (λ (q : GateId). q.limit) (sym gate); setting = e.setting ∙ ap (λ (q : GateId). q.setting) (sym gate); seen = e.seen; mine = e.mine }),
      (cc),
      All-tail IsWhole c.in-Some-next.seat c.next-in-loop-gate.new.self.rest.items (subst (All IsWhole) seats inv.2),
      (let h = ap length gates in let k = push.len in let m = push.capacity in let n = inv.3 in omega arith),
      (let h = ap length gates in let k = c.in-Some.ensures.steps.1 in let n = inv.4 in omega arith),
      (let h = ap length seats in let k = c.in-Some-next.ensures.len in let n = inv.5 in omega arith),
    )
