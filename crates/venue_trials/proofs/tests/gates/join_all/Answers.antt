-- The seat that was joined was the first of those that were left.
use Rattle.std.proofs.Common.{◌≡◌, ℕ, ◌+◌, ◌∷◌, length, subst, ap, ◌∙◌, arith}
use Rattle.std.specs.List.{All}
use Rattle.std.proofs.lemmas.List.Elements.{All-head, All-tail}
use Rattle.turn_gate.specs.Seats.{SeatState, GateId}
use Rattle.venue_trials.proofs.tests.gates.join_all.Goals as goal

abbrev IsJoinable : GateId → SeatState × ℕ → Type 0
IsJoinable gate other = (other.0.gate ≡ gate) × (other.0.part ≡ 1)

pub loop-other-preserved : goal.loop-other-preserved
loop-other-preserved c =
    let inv = c.loop-other.invariant in
    let e = c.in-Some.ensures.steps.0 in
    let left : All (IsJoinable c.args.gate.now) ((c.in-Some.other, c.in-Some.count) ∷ c.next.new.self.rest.items) = subst (All (IsJoinable c.args.gate.now)) e inv.3 in
    let first = All-head (IsJoinable c.args.gate.now) (c.in-Some.other, c.in-Some.count) c.next.new.self.rest.items left in
    let part : c.join.new.seat.part ≡ c.loop-other.seat.part + c.in-Some.other.part = ap (λ (seat : SeatState). seat.part) c.join.ensures.seat in
    let count = ap length e in
    let steps = c.in-Some.ensures.steps.1 in (
      ap (λ (seat : SeatState). seat.gate) c.join.ensures.seat ∙ inv.0,
      (let one = first.1 in let before = inv.1 in omega arith),
      (let before = inv.2 in omega arith),
      All-tail (IsJoinable c.args.gate.now) (c.in-Some.other, c.in-Some.count) c.next.new.self.rest.items left,
    )
