use Rattle.std.proofs.Common.{◌≡◌, ◌<◌, refl, inl, inr}
use Rattle.peg_groups.specs.Group.{IsNotAfter, time_in}
use Rattle.peg_groups.proofs.GroupBest.{best_of_above, best_of_at, best_of_below, after_at_value, after_above_value, after_none, no_rows}
use Rattle.peg_groups.proofs.group.best_of_group.Goals as goal

pub returns-in-Some-first_at-clause-found : goal.returns-in-Some-first_at-clause-found
returns-in-Some-first_at-clause-found g c =
    let above = c.price_pair-above.ensures in
    let at = c.price_pair-at.ensures in
    let a : IsNotAfter (time_in c.args.moves.now c.in-Some-first_at.at.0 c.in-Some-first_at.at.1) c.in-Some-first_at.at.1 c.earlier.result.time c.earlier.result.entry = rw (at.time, at.pair.1) at c.earlier.ensures.a in
    let b : IsNotAfter (time_in c.args.moves.now c.in-Some.above.0 c.in-Some.above.1) c.in-Some.above.1 c.earlier.result.time c.earlier.result.entry = rw (above.time, above.pair.1) at c.earlier.ensures.b in
    elim c.earlier.ensures.one [
      | inl e ↦ rw (e, at.value, at.pair.0, at.pair.1, at.time)
          (best_of_at c.args.moves.now c.args.tree.now c.args.value _ c.in-Some-first_at.at c.requires.present c.in-Some-first_at.ensures.found
          (after_above_value c.args.moves.now c.args.tree.now c.args.value _ _ c.in-Some.above c.requires.present above.same_above c.in-Some.ensures.found (rw (e, at.time, at.pair.1) at b)) refl)
      | inr e ↦ rw (e, above.value, above.pair.0, above.pair.1, above.time)
          (best_of_above c.args.moves.now c.args.tree.now c.args.value _ c.in-Some.above c.requires.present above.same_above c.in-Some.ensures.found
          (after_at_value c.args.moves.now c.args.tree.now c.args.value _ _ c.in-Some-first_at.at c.requires.present c.in-Some-first_at.ensures.found (rw (e, above.time, above.pair.1) at a)) refl)
    ]

pub returns-in-None-first_at-clause-found : goal.returns-in-None-first_at-clause-found
returns-in-None-first_at-clause-found g c =
    let p = c.price_pair.ensures in
    rw (p.value, p.pair.0, p.pair.1, p.time)
    (best_of_above c.args.moves.now c.args.tree.now c.args.value _ c.in-Some.above c.requires.present p.same_above c.in-Some.ensures.found (after_none (λ cap. cap ≡ c.args.value) c.args.moves.now c.args.tree.now _ _ c.in-None-first_at.ensures.found) refl)

pub returns-in-Some-first_at-2-clause-found : goal.returns-in-Some-first_at-2-clause-found
returns-in-Some-first_at-2-clause-found g c =
    let p = c.price_pair-in-Some-first_at-2.ensures in
    rw (p.value, p.pair.0, p.pair.1, p.time)
    (best_of_at c.args.moves.now c.args.tree.now c.args.value _ c.in-Some-first_at-2.at c.requires.present c.in-Some-first_at-2.ensures.found (after_none (λ cap. c.args.value < cap) c.args.moves.now c.args.tree.now _ _ c.in-None.ensures.found) refl)

pub returns-in-Some-highest_below-clause-found : goal.returns-in-Some-highest_below-clause-found
returns-in-Some-highest_below-clause-found g c =
    let p = c.price_pair-in-Some-highest_below.ensures in
    rw (p.value, p.pair.0, p.pair.1, p.time)
    (best_of_below c.args.moves.now c.args.tree.now c.args.value (c.in-Some-highest_below.cap, c.in-Some-highest_below.entry) c.requires.present c.in-None-first_at-2.ensures.found c.in-None.ensures.found c.in-Some-highest_below.ensures.found)

pub returns-in-None-highest_below-clause-found : goal.returns-in-None-highest_below-clause-found
returns-in-None-highest_below-clause-found g c =
    no_rows c.args.moves.now c.args.tree.now c.args.value c.in-None-first_at-2.ensures.found c.in-None.ensures.found c.in-None-highest_below.ensures.found
