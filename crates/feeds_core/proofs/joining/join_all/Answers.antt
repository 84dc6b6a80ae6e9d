-- The seats that were joined were those of the next feed.
use Rattle.std.proofs.Common.{◌≡◌, ℕ, ◌+◌, ◌-◌, ◌∷◌, ◌++◌, [], List, length, map, sym, ap, ◌∙◌, subst, append_assoc, arith}
use Rattle.std.specs.List.{All}
use Rattle.std.proofs.lemmas.List.{map-append}
use Rattle.std.proofs.lemmas.List.Elements.{All-head, All-tail}
use Rattle.turn_gate.specs.Rule.{whole}
use Rattle.venue_core.specs.Joining.{HaveParts}
use Rattle.venue_core.specs.SeatLaws.{parts_joined}
use Rattle.venue_core.specs.Venues.{setup_in}
use Rattle.feed_work.specs.declared.share.Worked.{Worked}
use Rattle.feeds_core.specs.Joined.{AreOneParts, AllWorked, Collects, Outcome, outcome_of}
use Rattle.feeds_core.proofs.Joins.{collects_none, joined, idle_parts, as_many}
use Rattle.feeds_core.proofs.Collecting.{Step}
use Rattle.venue_core.specs.Venues.{VenueId}
use Rattle.venue_core.specs.declared.seated.Seated.{Seated}
use Rattle.feeds_core.proofs.joining.join_all.Goals as goal

abbrev Outcomes : (R V : Type 0) → Worked (Seated R V) → Outcome
Outcomes R V one = outcome_of one.floor.seats one.refused

abbrev IsOne : (R V : Type 0) → VenueId → Worked (Seated R V) → Type 0
IsOne R V venue one = AreOneParts venue (Outcomes R V one)

pub loop-one-init : goal.loop-one-init
loop-one-init g c =
    let e = c.into_iter-one-iterator.ensures.into_iter_gives.0 in
    let count = ap length e in
    let idle = c.requires.seats in (
      idle.are,
      subst (λ (n : ℕ). HaveParts (whole - n) c.args.seats.now) (sym count)
          (idle_parts (whole - length c.args.worked.items) c.args.seats.now idle.idle),
      (let few = c.requires.few in omega arith),
      sym e,
      (let h = c.into_iter-one-iterator.ensures.into_iter_gives.1 in let w = c.args.worked.ok in omega arith),
      subst (All (IsOne g.row.R.Denot g.row.V.Denot c.args.venue.now)) (sym e) c.requires.others,
      λ feeds worked. collects_none (setup_in c.args.venue.now) c.args.venue.now (whole - length c.args.worked.items) c.args.seats.now feeds idle worked,
    )

pub join-requires-clause-other_seats : goal.join-requires-clause-other_seats
join-requires-clause-other_seats g c =
    let e = c.in-Some.ensures.steps.0 in
    let next = c.next.new.self.rest.items in
    (All-head (IsOne g.row.R.Denot g.row.V.Denot c.args.venue.now) c.in-Some.one next
    (subst (All (IsOne g.row.R.Denot g.row.V.Denot c.args.venue.now)) e c.loop-one.invariant.5)).are

pub loop-one-preserved : goal.loop-one-preserved
loop-one-preserved g c =
    let inv = c.loop-one.invariant in
    let venue = c.args.venue.now in
    let next = c.next.new.self.rest.items in
    let one = c.in-Some.one in
    let other = one.floor.seats in
    let IsIt = IsOne g.row.R.Denot g.row.V.Denot venue in
    let e = c.in-Some.ensures.steps.0 in
    let left = subst (All IsIt) e inv.5 in
    let first = All-head IsIt one next left in
    let rest = c.loop-one.one-iterator.rest.items in
    let count : length rest ≡ length (one ∷ next) = ap length e in
    let few = inv.2 in
    let same : (whole - length rest) + 1 ≡ whole - length next = omega arith in
    let step : Step c.loop-one.seats other c.join.new.seats = record {
      same = as_many venue c.loop-one.seats other inv.0 first.are;
      is = c.join.ensures.joined;
      seen = c.join.ensures.seen;
      other_seen = c.join.ensures.other_seen;
    } in (
      c.join.ensures.seats,
      subst (λ (n : ℕ). HaveParts n c.join.new.seats) same (subst (HaveParts ((whole - length rest) + 1)) (sym c.join.ensures.joined)
          (parts_joined (whole - length rest) 1 c.loop-one.seats other (inv.0 ∙ sym first.are) inv.1 first.parts)),
      omega arith,
      inv.3 ∙ ap (λ (l : List (Worked _)). c.loop-one.yielded ++ l) e ∙ sym (append_assoc c.loop-one.yielded (one ∷ []) next),
      (let k = c.in-Some.ensures.steps.1 in let n = inv.4 in omega arith),
      All-tail IsIt one next left,
      λ feeds worked.
          subst (Collects (setup_in venue) feeds c.join.new.seats) (sym c.or-refused.ensures)
          (joined (setup_in venue) c.loop-one.seats c.join.new.seats (map (Outcomes g.row.R.Denot g.row.V.Denot) c.loop-one.yielded)
          (Outcomes g.row.R.Denot g.row.V.Denot one) c.loop-one.refused step inv.6 feeds
          (subst (AllWorked (setup_in venue) 1 feeds) (map-append (Outcomes g.row.R.Denot g.row.V.Denot) c.loop-one.yielded (one ∷ [])) worked)),
    )
