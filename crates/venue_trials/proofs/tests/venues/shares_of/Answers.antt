-- One more seat of each gate was split off.
use Rattle.std.proofs.Common.{◌≡◌, ℕ, ◌+◌, ◌-◌, ◌∷◌, ◌++◌, [], List, length, sym, ap, refl, subst, length-append, arith}
use Rattle.std.specs.List.{All}
use Rattle.std.proofs.lemmas.List.Elements.{All-same, All-push}
use Rattle.turn_gate.specs.Rule.{whole}
use Rattle.venue_core.specs.Joining.{HaveParts}
use Rattle.venue_core.specs.SeatLaws.{parts_after_split, parts_split_off}
use Rattle.venue_core.specs.Venues.{AreSeatsOf}
use Rattle.venue_trials.specs.declared.tests.venues.Share.{Share}
use Rattle.venue_trials.proofs.tests.venues.shares_of.Goals as goal

all_pushed : {A : Type 0} (P : A → Type 0) (xs ys : List A) (x : A) → ys ≡ xs ++ x ∷ [] → All P xs → P x → All P ys
all_pushed P xs ys x is all one = All-same P ys (xs ++ x ∷ []) is (All-push P xs x all one)

more_pushed : {A : Type 0} (xs ys : List A) (x : A) (n : ℕ) → ys ≡ xs ++ x ∷ [] → length xs ≡ n → length ys ≡ n + 1
more_pushed xs ys x n is was = let e = ap length is in let f = length-append xs (x ∷ []) in omega arith

pub loop-i-preserved : goal.loop-i-preserved
loop-i-preserved g c =
    let inv = c.loop-i.invariant in
    let e = c.in_ok-new.ensures in
    let push = c.in_ok-push.ensures.items in
    let few = c.requires.many in
    let test = c.loop-i-test.true in
    let same : (whole - c.loop-i.i) - 1 ≡ whole - (c.loop-i.i + 1) = omega arith in (
      c.split.ensures.seats,
      subst (λ (n : ℕ). HaveParts n c.split.new.seats) same (subst (HaveParts ((whole - c.loop-i.i) - 1)) (sym e.old) (parts_after_split (whole - c.loop-i.i) c.loop-i.seats inv.1)),
      more_pushed c.loop-i.shares.items c.push.new.self.items _ c.loop-i.i push inv.2,
      all_pushed (λ (share : Share g.row.R.Denot g.row.V.Denot). (share.floor.venue.now ≡ c.args.venue.now) × AreSeatsOf c.args.venue.now share.floor.seats × HaveParts 1 share.floor.seats)
          c.loop-i.shares.items c.push.new.self.items _ push inv.3 (refl, e.new_seats, subst (HaveParts 1) (sym e.new) (parts_split_off c.loop-i.seats)),
    )
