-- The seat at i is split next.
use Rattle.std.proofs.Common.{◌<◌, [], ◌∷◌, ◌++◌, set, ◌∙◌, arith}
use Rattle.turn_gate.specs.Seats.{SeatState}
use Rattle.venue_core.proofs.AtSymbol.{seat_count}
use Rattle.venue_core.proofs.Places.{holds_at}
use Rattle.venue_core.proofs.Splits.{none_split, found, splits_next, takes_next, all_split}
use Rattle.venue_core.proofs.calls.split.Goals as goal

pub loop-i-init : goal.loop-i-init
loop-i-init g c = let e = c.in_ok-new.ensures in let n = c.len.ensures in (none_split c.args.seats.now.items, e.items, e.len, (cc))

pub split-other-requires-clause-gate : goal.split-other-requires-clause-gate
split-other-requires-clause-gate g c =
    (found c.loop-i.i c.args.gates.now.items c.args.seats.now.items c.loop-i.seats.items c.index_mut-seat.result.now c.index.result.now c.requires.gates c.loop-i.invariant.0
    (let t = c.loop-i-test.true in let e = c.len-i-end.ensures in omega arith) c.index_mut-seat.ensures.value c.index.ensures).1

pub split-other-requires-clause-part : goal.split-other-requires-clause-part
split-other-requires-clause-part g c =
    let at = found c.loop-i.i c.args.gates.now.items c.args.seats.now.items c.loop-i.seats.items c.index_mut-seat.result.now c.index.result.now c.requires.gates c.loop-i.invariant.0
    (let t = c.loop-i-test.true in let e = c.len-i-end.ensures in omega arith) c.index_mut-seat.ensures.value c.index.ensures in
    holds_at (λ (seat : SeatState). 1 < seat.part) c.args.seats.now.items c.loop-i.i c.index_mut-seat.result.now at.0 c.requires.parts

pub loop-i-preserved : goal.loop-i-preserved
loop-i-preserved g c =
    let at = found c.loop-i.i c.args.gates.now.items c.args.seats.now.items c.loop-i.seats.items c.index_mut-seat.result.now c.index.result.now c.requires.gates c.loop-i.invariant.0
    (let t = c.loop-i-test.true in let e = c.len-i-end.ensures in omega arith) c.index_mut-seat.ensures.value c.index.ensures in
    let inv = c.loop-i.invariant in
    let push = c.push_reserved.ensures in (
      (λ k. set (inv.0 k) c.loop-i.i (c.split-other.ensures.old k)) ∙ splits_next c.loop-i.i c.args.seats.now.items c.index_mut-seat.result.now at.0,
      push.items ∙ ((λ k. inv.1 k ++ c.split-other.ensures.new k ∷ []) ∙ takes_next c.loop-i.i c.args.seats.now.items c.index_mut-seat.result.now at.0),
      (let n = inv.2 in let m = push.len in omega arith),
      push.capacity ∙ inv.3,
    )

pub returns-clause-old : goal.returns-clause-old
returns-clause-old g c =
    let inv = c.loop-i.invariant in
    let count = seat_count c.args.gates.now.items c.args.seats.now.items c.requires.gates in
    inv.0 ∙ all_split c.args.seats.now.items c.loop-i.i (let t = c.loop-i-test.false in let u = c.loop-i.auto.i-end in let e = c.len-i-end.ensures in omega arith)
