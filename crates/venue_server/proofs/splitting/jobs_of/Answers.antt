-- One more floor was made, over seats that were split off.
use Rattle.std.proofs.Common.{◌≡◌, ℕ, ◌-◌, ◌∷◌, ◌++◌, [], List, length, map, refl, sym, ap, ◌∙◌, subst, append_assoc, length-append, arith}
use Rattle.std.specs.List.{range_with_len}
use Rattle.std.proofs.lemmas.List.{map-append}
use Rattle.std.proofs.lemmas.List.Elements.{All-nil, All-same, All-push}
use Rattle.turn_gate.specs.Rule.{whole}
use Rattle.venue_core.specs.Venues.{VenueId}
use Rattle.venue_core.specs.declared.seated.Seated.{Seated}
use Rattle.venue_server.specs.declared.workers.Job.{Job}
use Rattle.venue_server.specs.Seating.{HasSeats}
use Rattle.venue_server.proofs.Seats.{left_seats, new_seats, can_split, all_of, length_push, numbered_next}
use Rattle.venue_server.proofs.splitting.jobs_of.Goals as goal

abbrev IsFresh : (R V : Type 0) → VenueId → Job (Seated R V) → Type 0
IsFresh R V venue job = (job.floor.venue.now ≡ venue) × HasSeats venue 1 job.floor.seats

pub loop-inbox-init : goal.loop-inbox-init
loop-inbox-init g c =
    let e = c.into_iter-inbox-iterator.ensures.into_iter_gives.0 in (
      c.requires.seats,
      ap length c.in_ok-jobs.ensures.items,
      All-same (IsFresh g.row.R.Denot g.row.V.Denot c.args.venue.now) c.in_ok-jobs.jobs.items [] c.in_ok-jobs.ensures.items
          (All-nil (IsFresh g.row.R.Denot g.row.V.Denot c.args.venue.now)),
      sym e,
      (let h = c.into_iter-inbox-iterator.ensures.into_iter_gives.1 in let k = ap length e in let w = c.args.inboxes.ok in omega arith),
      ap (map (λ (job : Job (Seated g.row.R.Denot g.row.V.Denot)). job.number)) c.in_ok-jobs.ensures.items,
      ap (map (λ (job : Job (Seated g.row.R.Denot g.row.V.Denot)). job.inbox)) c.in_ok-jobs.ensures.items,
      (let k = ap length e in let w = c.args.inboxes.ok in let n = c.len.ensures in let z = c.in_ok-jobs.ensures.len in let m = c.in_ok-jobs.ensures.capacity in omega arith),
    )

pub split-requires-clause-parts : goal.split-requires-clause-parts
split-requires-clause-parts g c =
    let inv = c.loop-inbox.invariant in
    let yielded = c.loop-inbox.yielded in
    let rest = c.loop-inbox.inbox-iterator.rest.items in
    let few = c.requires.few in
    can_split (whole - length yielded) c.loop-inbox.seats
    (omega (arith, few, ap length inv.3, length-append yielded rest)) inv.0.have

pub loop-inbox-preserved : goal.loop-inbox-preserved
loop-inbox-preserved g c =
    let inv = c.loop-inbox.invariant in
    let venue = c.args.venue.now in
    let yielded = c.loop-inbox.yielded in
    let one = c.in-Some.inbox in
    let next = c.next.new.self.rest.items in
    let old = c.loop-inbox.seats in
    let IsIt = IsFresh g.row.R.Denot g.row.V.Denot venue in
    let e = c.in-Some.ensures.steps.0 in
    let few = c.requires.few in
    let split = c.in_ok-seats.ensures in
    let same : (whole - length yielded) - 1 ≡ whole - length (yielded ++ one ∷ []) =
    omega (arith, length-append yielded (one ∷ [])) in
    let push = c.push_reserved.ensures.items in
    let NumberOf : Job (Seated g.row.R.Denot g.row.V.Denot) → ℕ = λ job. job.number in
    let InboxOf = λ (job : Job (Seated g.row.R.Denot g.row.V.Denot)). job.inbox in (
      subst (λ (n : ℕ). HasSeats venue n c.split.new.seats) same
          (subst (HasSeats venue ((whole - length yielded) - 1)) (sym split.old) (left_seats venue (whole - length yielded) old inv.0)),
      (let more = length_push c.loop-inbox.jobs.items c.push_reserved.new.self.items _ push in omega (arith, more, inv.1, length-append yielded (one ∷ []))),
      All-same IsIt c.push_reserved.new.self.items _ push
          (All-push IsIt c.loop-inbox.jobs.items _ inv.2
          (refl, subst (HasSeats venue 1) (sym split.new) (new_seats venue old inv.0.are))),
      inv.3 ∙ ap (λ (l : List _). yielded ++ l) e ∙ sym (append_assoc yielded (one ∷ []) next),
      (let h = ap length e in let k = c.in-Some.ensures.steps.1 in let w = inv.4 in omega arith),
      ap (map NumberOf) push ∙ map-append NumberOf c.loop-inbox.jobs.items _
          ∙ numbered_next (map NumberOf c.loop-inbox.jobs.items) (length yielded) c.len-number.result inv.5
          (let w = c.loop-inbox.jobs.ok in let e = c.len-number.ensures in let i = inv.1 in omega arith)
          ∙ ap (range_with_len 0) (sym (length-append yielded (one ∷ []))),
      ap (map InboxOf) push ∙ map-append InboxOf c.loop-inbox.jobs.items _ ∙ ap (λ (l : List _). l ++ one ∷ []) inv.6,
      (let h = ap length e in let n = c.push_reserved.ensures.len in let m = c.push_reserved.ensures.capacity in let w = inv.7 in omega arith),
    )

pub returns : goal.returns
returns g c =
    let inv = c.loop-inbox.invariant in
    let venue = c.args.venue.now in
    let all : c.args.inboxes.items ≡ c.loop-inbox.yielded =
    all_of c.args.inboxes.items c.loop-inbox.yielded c.loop-inbox.inbox-iterator.rest.items inv.3
    (inv.4 ∙ c.in-None.ensures.steps.0) in record {
      seats = subst (λ (n : ℕ). HasSeats venue (whole - n) c.loop-inbox.seats) (sym (ap length all)) inv.0;
      count = inv.1 ∙ ap length (sym all);
      numbers = inv.5 ∙ ap (λ (l : List _). range_with_len 0 (length l)) (sym all);
      inboxes = inv.6 ∙ sym all;
      floors = inv.2;
    }
