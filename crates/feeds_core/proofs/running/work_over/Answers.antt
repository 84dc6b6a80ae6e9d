-- The seats of all feeds were split off one venue, worked with, and joined again.
use Rattle.std.proofs.Common.{◌≡◌, ◌-◌, ℕ, List, length, map, Some, ◌∙◌, ap, subst, arith, Vec}
use Rattle.std.proofs.lemmas.List.{length-map}
use Rattle.std.specs.declared.alloc.Global.{Global}
use Rattle.turn_gate.specs.Rule.{whole}
use Rattle.turn_gate.specs.Seats.{GateId, SeatState}
use Rattle.venue_core.specs.Venues.{VenueId, setup_in}
use Rattle.venue_core.specs.declared.seated.Seated.{Seated}
use Rattle.feed_work.specs.Feeds.{Asked}
use Rattle.feeds_core.specs.Joined.{AreIdleSeats, AllWorked, outcome_of}
use Rattle.feed_work.specs.declared.share.Worked.{Worked}
use Rattle.feeds_core.proofs.Closing.{all_interleave, none_full, book_settings}
use Rattle.feeds_core.proofs.Fresh.{shares_for, shares_of_venue, all_parts, all_worked, length_worked}
use Rattle.feeds_core.proofs.running.work_over.Goals as goal

abbrev VenueOf : (R V : Type 0) → Seated R V → VenueId
VenueOf R V floor = floor.venue.now

abbrev SeatsOf : (R V : Type 0) → Seated R V → List SeatState
SeatsOf R V floor = floor.seats

abbrev items : Vec Asked Global → List Asked
items commands = commands.items

abbrev share_items : (R V : Type 0) → Seated R V × Vec Asked Global → List Asked
share_items R V share = share.1.items

pub work_feeds-requires-clause-commands : goal.work_feeds-requires-clause-commands
work_feeds-requires-clause-commands g c κs facts =
    shares_for g.V.Held.reports (VenueOf g.row.R.Denot g.row.V.Denot) (SeatsOf g.row.R.Denot g.row.V.Denot) c.args.venue
    c.in_ok-shares.shares.items c.args.feeds.items c.in_ok-shares.ensures.floors c.in_ok-shares.ensures.feeds c.requires.commands

pub join_all-refused-requires-clause-few : goal.join_all-refused-requires-clause-few
join_all-refused-requires-clause-few g c =
    let few = c.requires.few in
    omega (
      arith,
      few,
      ap length c.in_ok-shares.ensures.feeds,
      length-map c.in_ok-shares.shares.items (share_items g.row.R.Denot g.row.V.Denot),
      length-map c.args.feeds.items items,
      length_worked g.V.Held.reports (VenueOf g.row.R.Denot g.row.V.Denot) (SeatsOf g.row.R.Denot g.row.V.Denot) 1
          c.in_ok-shares.shares.items c.in_ok-worked.worked.items c.in_ok-worked.ensures,
    )

pub join_all-refused-requires-clause-seats : goal.join_all-refused-requires-clause-seats
join_all-refused-requires-clause-seats g c =
    let same : length c.args.feeds.items ≡ length c.in_ok-worked.worked.items =
    omega (
      arith,
      ap length c.in_ok-shares.ensures.feeds,
      length-map c.in_ok-shares.shares.items (share_items g.row.R.Denot g.row.V.Denot),
      length-map c.args.feeds.items items,
      length_worked g.V.Held.reports (VenueOf g.row.R.Denot g.row.V.Denot) (SeatsOf g.row.R.Denot g.row.V.Denot) 1
          c.in_ok-shares.shares.items c.in_ok-worked.worked.items c.in_ok-worked.ensures,
    ) in
    subst (λ (n : ℕ). AreIdleSeats c.args.venue (whole - n) c.shares_of.new.seats) same c.in_ok-shares.ensures.seats

pub join_all-refused-requires-clause-others : goal.join_all-refused-requires-clause-others
join_all-refused-requires-clause-others g c =
    all_parts g.V.Held.reports (VenueOf g.row.R.Denot g.row.V.Denot) (SeatsOf g.row.R.Denot g.row.V.Denot) c.args.venue 1
    c.in_ok-shares.shares.items c.in_ok-worked.worked.items c.in_ok-shares.ensures.floors c.in_ok-worked.ensures

pub unreachable-requires : goal.unreachable-requires
unreachable-requires g c =
    let R = g.row.R.Denot in
    let V = g.row.V.Denot in
    let venue = c.args.venue in
    let shares = c.in_ok-shares.shares.items in
    let worked = c.in_ok-worked.worked.items in
    let feeds = map items c.args.feeds.items in
    let each = all_worked g.V.Held.reports (VenueOf R V) (SeatsOf R V) venue 1 shares worked c.in_ok-shares.ensures.floors
    (shares_of_venue g.V.Held.reports (VenueOf R V) (SeatsOf R V) venue shares c.args.feeds.items c.in_ok-shares.ensures.feeds c.requires.commands)
    c.in_ok-worked.ensures in
    let outcomes = map (λ (w : Worked (Seated R V)). outcome_of w.floor.seats w.refused) worked in
    let collects = c.join_all-refused.ensures.collects feeds
    (subst (λ (fs : List (List Asked)). AllWorked (setup_in venue) 1 fs outcomes) c.in_ok-shares.ensures.feeds each) in
    let seats = c.join_all-refused.new.seats in
    let full = rw c.in-Some-Full.is at c.in-Some-Full.field-0-is in
    none_full g.V.Held.journal g.V.Held.limit g.V.Held.setting (setup_in venue) feeds seats c.in-Ok.books.items
    c.join_all-refused.result c.in-Ok.ensures.books collects
    (λ symbol lt. c.requires.room symbol
    (omega (arith, lt, ap length c.join_all-refused.ensures.seats, length-map seats (λ (s : SeatState). s.gate))))
    c.in-Some-Full.field-0-0 (c.in-Some-Full.is ∙ ap Some full)

pub returns-in-None-clause-settings : goal.returns-in-None-clause-settings
returns-in-None-clause-settings g c =
    book_settings g.V.Held.journal g.V.Held.limit g.V.Held.setting c.join_all-refused.new.seats c.in-Ok.books.items c.in-Ok.ensures.books
    ∙ ap (map (λ (gate : GateId). gate.setting)) c.join_all-refused.ensures.seats

pub returns-in-None-clause-interleaves : goal.returns-in-None-clause-interleaves
returns-in-None-clause-interleaves g c =
    let R = g.row.R.Denot in
    let V = g.row.V.Denot in
    let venue = c.args.venue in
    let shares = c.in_ok-shares.shares.items in
    let worked = c.in_ok-worked.worked.items in
    let feeds = map items c.args.feeds.items in
    let each = all_worked g.V.Held.reports (VenueOf R V) (SeatsOf R V) venue 1 shares worked c.in_ok-shares.ensures.floors
    (shares_of_venue g.V.Held.reports (VenueOf R V) (SeatsOf R V) venue shares c.args.feeds.items c.in_ok-shares.ensures.feeds c.requires.commands)
    c.in_ok-worked.ensures in
    let outcomes = map (λ (w : Worked (Seated R V)). outcome_of w.floor.seats w.refused) worked in
    let collects = c.join_all-refused.ensures.collects feeds
    (subst (λ (fs : List (List Asked)). AllWorked (setup_in venue) 1 fs outcomes) c.in_ok-shares.ensures.feeds each) in
    all_interleave g.V.Held.journal g.V.Held.limit g.V.Held.setting (setup_in venue) feeds c.join_all-refused.new.seats
    c.in-Ok.books.items c.join_all-refused.result c.in-Ok.ensures.books collects c.in-None.is
