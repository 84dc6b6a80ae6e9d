-- The seats that were joined were those of the next task.
use Rattle.std.proofs.Common.{◌≡◌, ℕ, List, ◌+◌, ◌-◌, ◌++◌, ◌∷◌, [], length, map, refl, sym, ap, ◌∙◌, subst, arith, append_assoc}
use Rattle.std.specs.List.{All}
use Rattle.std.proofs.lemmas.List.{map-append}
use Rattle.std.proofs.lemmas.List.Elements.{All-head, All-tail}
use Rattle.turn_gate.specs.Rule.{whole}
use Rattle.venue_core.specs.Joining.{HaveParts}
use Rattle.venue_core.specs.Venues.{VenueId}
use Rattle.venue_core.specs.declared.seated.Seated.{Seated}
use Rattle.venue_server.specs.declared.workers.Finished.{Finished}
use Rattle.venue_server.specs.declared.workers.Outcome.{Outcome}
use Rattle.venue_server.specs.Outcomes.{first_wrong}
use Rattle.venue_server.specs.Seating.{HasSeats}
use Rattle.venue_server.proofs.Outcomes.{wrong_next}
use Rattle.venue_server.proofs.Seats.{all_of}
use Rattle.venue_server.proofs.joining.join_links.Goals as goal

abbrev IsOne : (R V : Type 0) → VenueId → Finished (Seated R V) → Type 0
IsOne R V venue one = HasSeats venue 1 one.floor.seats

abbrev outcome_of : (R V : Type 0) → Finished (Seated R V) → Outcome
outcome_of R V one = one.outcome

pub loop-one-init : goal.loop-one-init
loop-one-init g c =
    let e = c.into_iter-one-iterator.ensures.into_iter_gives.0 in
    let count = ap length e in
    let has = c.requires.seats in (
      has.are,
      subst (λ (n : ℕ). HaveParts (whole - (2 + n)) c.args.seats.now) (sym count) has.have,
      (let few = c.requires.few in omega arith),
      (let h = c.into_iter-one-iterator.ensures.into_iter_gives.1 in let w = c.args.links.ok in omega arith),
      subst (All (IsOne g.row.R.Denot g.row.V.Denot c.args.venue.now)) (sym e) c.requires.others,
      sym e,
      refl,
    )

pub join_one-requires-clause-other : goal.join_one-requires-clause-other
join_one-requires-clause-other g c =
    let e = c.in-Some.ensures.steps.0 in
    let next = c.next.new.self.rest.items in
    (All-head (IsOne g.row.R.Denot g.row.V.Denot c.args.venue.now) c.in-Some.one next
    (subst (All (IsOne g.row.R.Denot g.row.V.Denot c.args.venue.now)) e c.loop-one.invariant.4))

pub loop-one-preserved : goal.loop-one-preserved
loop-one-preserved g c =
    let inv = c.loop-one.invariant in
    let venue = c.args.venue.now in
    let next = c.next.new.self.rest.items in
    let one = c.in-Some.one in
    let yielded = c.loop-one.yielded in
    let OutcomeOf = outcome_of g.row.R.Denot g.row.V.Denot in
    let IsIt = IsOne g.row.R.Denot g.row.V.Denot venue in
    let e = c.in-Some.ensures.steps.0 in
    let left = subst (All IsIt) e inv.4 in
    let rest = c.loop-one.one-iterator.rest.items in
    let count : length rest ≡ length (one ∷ next) = ap length e in
    let few = inv.2 in
    let same : (whole - (2 + length rest)) + 1 ≡ whole - (2 + length next) = omega arith in (
      c.join_one.ensures.seats,
      subst (λ (n : ℕ). HaveParts n c.join_one.new.seats) same (c.join_one.ensures.parts (whole - (2 + length rest)) inv.1),
      omega arith,
      (let k = c.in-Some.ensures.steps.1 in let n = inv.3 in omega arith),
      All-tail IsIt one next left,
      inv.5 ∙ ap (λ (l : List _). yielded ++ l) e ∙ sym (append_assoc yielded (one ∷ []) next),
      wrong_next (map OutcomeOf yielded) c.loop-one.outcome c.join_one.result c.or-outcome.result inv.6 c.or-outcome.ensures
          ∙ ap (λ (o : Outcome). first_wrong (map OutcomeOf yielded ++ o ∷ [])) c.join_one.ensures.outcome
          ∙ ap first_wrong (sym (map-append OutcomeOf yielded (one ∷ []))),
    )

pub returns : goal.returns
returns g c =
    let inv = c.loop-one.invariant in
    let none : length c.loop-one.one-iterator.rest.items ≡ 0 = inv.3 ∙ c.in-None.ensures.steps.0 in
    let all : c.args.links.items ≡ c.loop-one.yielded = all_of c.args.links.items c.loop-one.yielded c.loop-one.one-iterator.rest.items inv.5 none in record {
      seats = record {
        are = inv.0;
        have = subst (λ (n : ℕ). HaveParts (whole - (2 + n)) c.loop-one.seats) none inv.1;
      };
      outcome = inv.6 ∙ ap (λ (l : List _). first_wrong (map (outcome_of g.row.R.Denot g.row.V.Denot) l)) (sym all);
    }
