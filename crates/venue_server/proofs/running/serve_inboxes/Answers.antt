-- Behind the seats of the connections and the drop session there is a part left for the quotes, and all seats come back.
use Rattle.std.proofs.Common.{◌≡◌, ◌+◌, ◌-◌, ℕ, List, length, sym, ap, ◌∙◌, subst, arith}
use Rattle.turn_gate.specs.Rule.{whole}
use Rattle.turn_gate.specs.Seats.{SeatState}
use Rattle.venue_core.specs.Marks.{mark_of}
use Rattle.venue_core.specs.Venues.{VenueId}
use Rattle.venue_core.specs.declared.seated.Seated.{Seated}
use Rattle.venue_server.specs.Seating.{HasSeats}
use Rattle.venue_server.specs.declared.workers.Finished.{Finished}
use Rattle.venue_server.specs.declared.workers.Job.{Job}
use Rattle.venue_server.proofs.Seats.{can_split, left_seats, marked_stay, new_seats, tasks_stay}
use Rattle.venue_server.proofs.running.serve_inboxes.Goals as goal

abbrev VenueOf : (R V : Type 0) → Job (Seated R V) → VenueId
VenueOf R V job = job.floor.venue.now

abbrev OtherOf : (R V : Type 0) → Finished (Seated R V) → VenueId
OtherOf R V one = one.floor.venue.now

abbrev Before : (R V : Type 0) → Job (Seated R V) → List SeatState
Before R V job = job.floor.seats

abbrev After : (R V : Type 0) → Finished (Seated R V) → List SeatState
After R V one = one.floor.seats

pub split-requires-clause-parts : goal.split-requires-clause-parts
split-requires-clause-parts g c =
    let few = c.requires.few in
    let count = c.in_ok-jobs.ensures.count in
    let has = c.in_ok-jobs.ensures.seats in
    can_split _ c.jobs_and_last.new.seats (omega arith) has.have

pub join_all-requires-clause-few : goal.join_all-requires-clause-few
join_all-requires-clause-few g c =
    let a = c.in_ok-links.links.ok in let b = c.in_ok-jobs.jobs.ok in let d = c.in_ok-jobs.ensures.count in
    let h = c.in_ok-links.ensures.count in omega arith

pub join_all-requires-clause-seats : goal.join_all-requires-clause-seats
join_all-requires-clause-seats g c =
    let venue = c.args.venue.now in
    let inboxes = c.args.inboxes.items in
    let links = c.in_ok-links.links.items in
    let same : (whole - length inboxes) - 1 ≡ whole - (2 + length links) =
    (let a = c.in_ok-links.links.ok in let b = c.in_ok-jobs.jobs.ok in let d = c.in_ok-jobs.ensures.count in
    let h = c.in_ok-links.ensures.count in omega arith) in
    subst (λ (n : ℕ). HasSeats venue n c.split.new.seats) same
    (subst (HasSeats venue ((whole - length inboxes) - 1)) (sym c.in_ok-split.ensures.old)
    (left_seats venue (whole - length inboxes) c.jobs_and_last.new.seats c.in_ok-jobs.ensures.seats))

pub join_all-requires-clause-others : goal.join_all-requires-clause-others
join_all-requires-clause-others g c =
    let R = g.row.R.Denot in
    let V = g.row.V.Denot in
    tasks_stay (VenueOf R V) (OtherOf R V) (Before R V) (After R V) c.args.venue.now c.in_ok-jobs.jobs.items c.in_ok-links.links.items
    c.in_ok-jobs.ensures.floors
    (let a = c.in_ok-links.links.ok in let b = c.in_ok-jobs.jobs.ok in let h = c.in_ok-links.ensures.count in omega arith)
    (λ k job one within p q. c.in_ok-links.ensures.each k job one (let b = c.in_ok-jobs.jobs.ok in omega arith) p q)

pub join_all-requires-clause-quotes : goal.join_all-requires-clause-quotes
join_all-requires-clause-quotes g c =
    let venue = c.args.venue.now in
    let quoted = c.in_ok-links.quoted in
    marked_stay venue quoted.floor.venue.now c.in_ok-split.field-0 quoted.floor.seats c.in_ok-links.ensures.quoted
    (subst (HasSeats venue 1) (sym c.in_ok-split.ensures.new)
    (new_seats venue c.jobs_and_last.new.seats c.in_ok-jobs.ensures.seats.are))

pub join_all-requires-clause-copies : goal.join_all-requires-clause-copies
join_all-requires-clause-copies g c =
    let venue = c.args.venue.now in
    let copied = c.in_ok-links.copied in
    let copying = c.in_ok-jobs.copying in
    let was = c.in_ok-jobs.ensures.last in
    marked_stay venue copied.floor.venue.now copying.floor.seats copied.floor.seats
    (c.in_ok-links.ensures.copied ∙ ap (λ (v : VenueId). mark_of v copying.floor.seats) was.0) was.1
