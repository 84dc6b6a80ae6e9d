-- The seat that was joined was the first of those that are left.
use Rattle.std.proofs.Common.{◌++◌, ◌∷◌, [], length, sym, ap, ◌∙◌, refl, append_assoc, length-append, arith, List, subst}
use Rattle.std.specs.List.{AllZip}
use Rattle.turn_gate.specs.Seats.{SeatState}
use Rattle.venue_core.specs.Joining.{HasSeenNoLess, all_joined}
use Rattle.venue_core.proofs.AtSymbol.{seat_count}
use Rattle.venue_core.proofs.Joins.{IsNext, next_within, gates_there, joins_next, are_all_joined, begin_with, begin_with_others, own_numbers, none_left}
use Rattle.venue_core.proofs.calls.join.Goals as goal

pub loop-one-init : goal.loop-one-init
loop-one-init g c = let e = c.into_iter-one-iterator.ensures.into_iter_gives.0 in (
  refl,
  refl,
  sym e,
  (let h = c.into_iter-one-iterator.ensures.into_iter_gives.1 in let k = ap length e in let w = c.args.other.ok in omega arith),
)

pub index_mut-seat-requires : goal.index_mut-seat-requires
index_mut-seat-requires g c =
    let inv = c.loop-one.invariant in
    let n : IsNext c.args.seats.now.items c.args.other.items c.loop-one.yielded c.next.new.self.rest.items c.loop-one.seats.items c.args.gates.now.items c.loop-one.i c.in-Some.one
    = record { are = c.requires.gates; other_are = c.requires.other_gates; joined = inv.0; split = inv.2 ∙ ap (λ (zs : List SeatState). c.loop-one.yielded ++ zs) c.in-Some.ensures.steps.0; place = inv.1 } in
    let w = next_within _ _ _ _ _ _ _ _ n in let ok = c.loop-one.seats.ok in omega arith

pub join-requires : goal.join-requires
join-requires g c =
    let inv = c.loop-one.invariant in
    let n : IsNext c.args.seats.now.items c.args.other.items c.loop-one.yielded c.next.new.self.rest.items c.loop-one.seats.items c.args.gates.now.items c.loop-one.i c.in-Some.one
    = record { are = c.requires.gates; other_are = c.requires.other_gates; joined = inv.0; split = inv.2 ∙ ap (λ (zs : List SeatState). c.loop-one.yielded ++ zs) c.in-Some.ensures.steps.0; place = inv.1 } in
    let at = gates_there _ _ _ _ _ _ _ _ _ _ n c.index_mut-seat.ensures.value c.index.ensures in
    record { gate = at.0; other_gate = at.1 }

pub loop-one-preserved : goal.loop-one-preserved
loop-one-preserved g c =
    let inv = c.loop-one.invariant in
    let e = c.join.ensures in
    let n : IsNext c.args.seats.now.items c.args.other.items c.loop-one.yielded c.next.new.self.rest.items c.loop-one.seats.items c.args.gates.now.items c.loop-one.i c.in-Some.one
    = record { are = c.requires.gates; other_are = c.requires.other_gates; joined = inv.0; split = inv.2 ∙ ap (λ (zs : List SeatState). c.loop-one.yielded ++ zs) c.in-Some.ensures.steps.0; place = inv.1 } in (
      joins_next _ _ _ _ _ _ _ _ _ _ n c.index_mut-seat.ensures.value (record { is = e.seat; seen = e.seen; other_seen = e.other_seen; mine = e.mine }),
      (let h = length-append c.loop-one.yielded (c.in-Some.one ∷ []) in let k = inv.1 in omega arith),
      n.split ∙ sym (append_assoc c.loop-one.yielded (c.in-Some.one ∷ []) c.next.new.self.rest.items),
      (let h = ap length c.in-Some.ensures.steps.0 in let k = c.in-Some.ensures.steps.1 in let w = inv.3 in omega arith),
    )

pub returns-clause-seats : goal.returns-clause-seats
returns-clause-seats g c =
    let inv = c.loop-one.invariant in
    let all = inv.2 ∙ none_left c.loop-one.yielded c.loop-one.one-iterator.rest.items (inv.3 ∙ c.in-None.ensures.steps.0) in
    are_all_joined c.args.seats.now.items c.loop-one.yielded c.loop-one.seats.items inv.0 ∙ ap (all_joined c.args.seats.now.items) (sym all)

pub returns-clause-seen : goal.returns-clause-seen
returns-clause-seen g c =
    let inv = c.loop-one.invariant in
    let all = ap length (inv.2 ∙ none_left c.loop-one.yielded c.loop-one.one-iterator.rest.items (inv.3 ∙ c.in-None.ensures.steps.0)) in
    let m = seat_count c.args.gates.now.items c.args.seats.now.items c.requires.gates in
    let n = seat_count c.args.gates.now.items c.args.other.items c.requires.other_gates in
    begin_with c.args.seats.now.items c.loop-one.yielded c.loop-one.seats.items inv.0 (omega arith)

pub returns-clause-other_seen : goal.returns-clause-other_seen
returns-clause-other_seen g c =
    let inv = c.loop-one.invariant in
    let all = inv.2 ∙ none_left c.loop-one.yielded c.loop-one.one-iterator.rest.items (inv.3 ∙ c.in-None.ensures.steps.0) in
    let count = ap length all in
    let m = seat_count c.args.gates.now.items c.args.seats.now.items c.requires.gates in
    let n = seat_count c.args.gates.now.items c.args.other.items c.requires.other_gates in
    subst (λ (ps : List SeatState). AllZip HasSeenNoLess ps c.loop-one.seats.items) (sym all)
    (begin_with_others c.args.seats.now.items c.loop-one.yielded c.loop-one.seats.items inv.0 (omega arith))

pub returns-clause-mine : goal.returns-clause-mine
returns-clause-mine g c =
    let inv = c.loop-one.invariant in
    let all = ap length (inv.2 ∙ none_left c.loop-one.yielded c.loop-one.one-iterator.rest.items (inv.3 ∙ c.in-None.ensures.steps.0)) in
    let m = seat_count c.args.gates.now.items c.args.seats.now.items c.requires.gates in
    let n = seat_count c.args.gates.now.items c.args.other.items c.requires.other_gates in
    own_numbers c.args.seats.now.items c.loop-one.yielded c.loop-one.seats.items inv.0 (omega arith)
