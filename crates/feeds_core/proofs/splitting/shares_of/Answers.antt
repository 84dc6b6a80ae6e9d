-- One more floor was made, over seats that were split off.
use Rattle.std.proofs.Common.{◌≡◌, ℕ, ◌-◌, ◌∷◌, ◌++◌, [], List, length, map, refl, sym, ap, ◌∙◌, subst, append_assoc, length-append, arith, Vec}
use Rattle.std.specs.declared.alloc.Global.{Global}
use Rattle.std.proofs.lemmas.List.{map-append}
use Rattle.std.proofs.lemmas.List.Elements.{All-nil, All-same, All-push}
use Rattle.turn_gate.specs.Rule.{whole}
use Rattle.venue_core.specs.Venues.{VenueId}
use Rattle.venue_core.specs.declared.seated.Seated.{Seated}
use Rattle.feed_work.specs.Feeds.{Asked}
use Rattle.feeds_core.specs.Joined.{AreIdleSeats}
use Rattle.feeds_core.proofs.Splits.{after_seats, new_seats, can_split}
use Rattle.feed_work.proofs.Places.{all_of}
use Rattle.feeds_core.proofs.splitting.shares_of.Goals as goal

abbrev Share : (R V : Type 0) → Type 0
Share R V = Seated R V × Vec Asked Global

abbrev IsFresh : (R V : Type 0) → VenueId → Share R V → Type 0
IsFresh R V venue share = (share.0.venue.now ≡ venue) × AreIdleSeats venue 1 share.0.seats

pub loop-commands-init : goal.loop-commands-init
loop-commands-init g c =
    let e = c.into_iter-commands-iterator.ensures.into_iter_gives.0 in (
      c.requires.seats,
      ap (map (λ (share : Share g.row.R.Denot g.row.V.Denot). share.1.items)) (c.in_ok-shares.ensures.items),
      All-same (IsFresh g.row.R.Denot g.row.V.Denot c.args.venue.now) c.in_ok-shares.shares.items [] c.in_ok-shares.ensures.items
          (All-nil (IsFresh g.row.R.Denot g.row.V.Denot c.args.venue.now)),
      sym e,
      (let h = c.into_iter-commands-iterator.ensures.into_iter_gives.1 in let k = ap length e in let w = c.args.feeds.ok in omega arith),
    )

pub split-requires-clause-parts : goal.split-requires-clause-parts
split-requires-clause-parts g c =
    let inv = c.loop-commands.invariant in
    let yielded = c.loop-commands.yielded in
    let rest = c.loop-commands.commands-iterator.rest.items in
    let few = c.requires.few in
    can_split (whole - length yielded) c.loop-commands.seats
    (omega (arith, few, ap length inv.3, length-append yielded rest)) inv.0.idle

pub loop-commands-preserved : goal.loop-commands-preserved
loop-commands-preserved g c =
    let inv = c.loop-commands.invariant in
    let venue = c.args.venue.now in
    let yielded = c.loop-commands.yielded in
    let one = c.in-Some.commands in
    let next = c.next.new.self.rest.items in
    let rest = c.loop-commands.commands-iterator.rest.items in
    let old = c.loop-commands.seats in
    let IsIt = IsFresh g.row.R.Denot g.row.V.Denot venue in
    let e = c.in-Some.ensures.steps.0 in
    let few = c.requires.few in
    let split = c.in_ok-seats.ensures in
    let same : (whole - length yielded) - 1 ≡ whole - length (yielded ++ one ∷ []) =
    omega (arith, length-append yielded (one ∷ [])) in
    let push = c.in_ok-push.ensures.items in (
      subst (λ (n : ℕ). AreIdleSeats venue n c.split.new.seats) same
          (subst (AreIdleSeats venue ((whole - length yielded) - 1)) (sym split.old) (after_seats venue (whole - length yielded) old inv.0)),
      ap (map (λ (share : Share g.row.R.Denot g.row.V.Denot). share.1.items)) push
          ∙ map-append (λ (share : Share g.row.R.Denot g.row.V.Denot). share.1.items) c.loop-commands.shares.items _
          ∙ ap (λ (l : List (List Asked)). l ++ one.items ∷ []) inv.1
          ∙ sym (map-append (λ (commands : Vec Asked Global). commands.items) yielded (one ∷ [])),
      All-same IsIt c.push.new.self.items _ push
          (All-push IsIt c.loop-commands.shares.items _ inv.2
          (refl, subst (AreIdleSeats venue 1) (sym split.new) (new_seats venue (whole - length yielded) old inv.0))),
      inv.3 ∙ ap (λ (l : List (Vec Asked Global)). yielded ++ l) e ∙ sym (append_assoc yielded (one ∷ []) next),
      (let h = ap length e in let k = c.in-Some.ensures.steps.1 in let w = inv.4 in omega arith),
    )

pub returns : goal.returns
returns g c =
    let inv = c.loop-commands.invariant in
    let venue = c.args.venue.now in
    let all : c.args.feeds.items ≡ c.loop-commands.yielded =
    all_of c.args.feeds.items c.loop-commands.yielded c.loop-commands.commands-iterator.rest.items inv.3
    (inv.4 ∙ c.in-None.ensures.steps.0) in record {
      seats = subst (λ (l : List (Vec Asked Global)). AreIdleSeats venue (whole - length l) c.loop-commands.seats) (sym all) inv.0;
      feeds = inv.1 ∙ ap (map (λ (commands : Vec Asked Global). commands.items)) (sym all);
      floors = inv.2;
    }
