-- The seats that were joined were the first of those that are left.
use Rattle.std.proofs.Common.{◌≡◌, ℕ, ◌+◌, ◌-◌, ◌∷◌, length, sym, ap, ◌∙◌, subst, arith}
use Rattle.std.specs.List.{All}
use Rattle.std.proofs.lemmas.List.Elements.{All-head, All-tail}
use Rattle.turn_gate.specs.Rule.{whole}
use Rattle.venue_core.specs.Joining.{HaveParts}
use Rattle.venue_core.specs.SeatLaws.{parts_joined}
use Rattle.venue_core.specs.Venues.{AreSeatsOf}
use Rattle.venue_trials.specs.declared.tests.venues.Worked.{Worked}
use Rattle.venue_trials.proofs.tests.venues.join_all.Goals as goal

pub loop-worked-preserved : goal.loop-worked-preserved
loop-worked-preserved g c =
    let inv = c.loop-worked.invariant in
    let next = c.next.new.self.rest.items in
    let e = c.in-Some.ensures.steps.0 in
    let IsOf = λ (worked : Worked g.row.R.Denot g.row.V.Denot). AreSeatsOf c.args.venue.now worked.floor.seats × HaveParts 1 worked.floor.seats in
    let left = subst (All IsOf) e inv.4 in
    let first = All-head IsOf c.in-Some.worked next left in
    let rest = c.loop-worked.worked-iterator.rest.items in
    let count : length rest ≡ length (c.in-Some.worked ∷ next) = ap length e in
    let few = inv.2 in
    let same : (whole - length rest) + 1 ≡ whole - length next = omega arith in (
      c.join.ensures.seats,
      subst (λ (n : ℕ). HaveParts n c.join.new.seats) same (subst (HaveParts ((whole - length rest) + 1)) (sym c.join.ensures.joined)
          (parts_joined (whole - length rest) 1 c.loop-worked.seats c.in-Some.worked.floor.seats (inv.0 ∙ sym first.0) inv.1 first.1)),
      omega arith,
      (let k = c.in-Some.ensures.steps.1 in let n = inv.3 in omega arith),
      All-tail IsOf c.in-Some.worked next left,
    )
