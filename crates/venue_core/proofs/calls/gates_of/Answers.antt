-- One more gate was made, with its seat.
use Rattle.std.proofs.Common.{◌≡◌, List, [], ◌∷◌, ◌++◌, length, sym, ap, ◌∙◌, subst, append_assoc, arith}
use Rattle.std.specs.List.{All}
use Rattle.std.proofs.lemmas.List.Elements.{All-same, All-push, All-tail}
use Rattle.turn_gate.specs.Seats.{GateId, SeatState}
use Rattle.venue_core.specs.Joining.{IsFirstSeat}
use Rattle.venue_core.proofs.Closes.{reads_more, reads_more_so}
use Rattle.venue_core.proofs.calls.gates_of.Goals as goal

pub loop-book-preserved : goal.loop-book-preserved
loop-book-preserved g c =
    let inv = c.loop-book.invariant in
    let books = c.in-Some.ensures.steps.0 in
    let made = c.in-Ok.ensures in
    let gates = c.in_ok-push-in-Ok.ensures.items in
    let seats = c.in_ok-push-in-Ok-2.ensures.items in (
      reads_more (λ (gate : GateId). gate.limit) g.V.Held.limit c.loop-book.gates.items c.push.new.self.items c.loop-book.yielded c.in-Ok.gate c.in-Some.book inv.0 gates made.limit,
      reads_more (λ (gate : GateId). gate.setting) g.V.Held.setting c.loop-book.gates.items c.push.new.self.items c.loop-book.yielded c.in-Ok.gate c.in-Some.book inv.1 gates made.setting,
      reads_more_so (λ (seat : SeatState). seat.gate) c.loop-book.seats.items c.push-in-Ok.new.self.items c.loop-book.gates.items c.push.new.self.items c.in-Ok.seat c.in-Ok.gate inv.2 seats gates made.gate,
      All-same IsFirstSeat c.push-in-Ok.new.self.items (c.loop-book.seats.items ++ c.in-Ok.seat ∷ []) seats
          (All-push IsFirstSeat c.loop-book.seats.items c.in-Ok.seat inv.3 (record { seen = made.seen; mine = made.mine; part = made.part })),
      inv.4 ∙ (ap (λ (zs : List g.row.V.Denot). c.loop-book.yielded ++ zs) books ∙ sym (append_assoc c.loop-book.yielded (c.in-Some.book ∷ []) c.next.new.self.rest.items)),
      All-tail (λ (book : g.row.V.Denot). g.V.Held.journal book ≡ []) c.in-Some.book c.next.new.self.rest.items (subst (All (λ (book : g.row.V.Denot). g.V.Held.journal book ≡ [])) books inv.5),
      (let h = ap length books in let k = c.in-Some.ensures.steps.1 in let n = inv.6 in omega arith),
    )
