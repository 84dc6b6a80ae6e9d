use Rattle.std.proofs.Common.{◌≡◌, ℕ, ◌+◌, ◌-◌, ◌<◌, ◌&&◌, not, zero, suc, Bool, cond, List, [], ◌∷◌, drop, Some, ap, sym, ◌∙◌, subst, arith, slice_get}
use Rattle.std.specs.List.{list_any}
use Rattle.venue_words.specs.Key.{same_key}
use Rattle.peg_groups.specs.Flat.{ArePlaces, is_filled, rows_in}
use Rattle.peg_groups.specs.KeyCount.{key_count}
use Rattle.peg_groups.specs.declared.flat.Place.{Place}
use Rattle.peg_groups.proofs.FlatSteps.{keys_place}
use Rattle.peg_groups.proofs.Lists.{drop_at}
use Rattle.peg_groups.proofs.flat_side.count_keys.Goals as goal

places_from : (places : List Place) (i : ℕ) → ArePlaces places → ArePlaces (drop i places)
places_from [] zero a = tt
places_from [] (suc i) a = tt
places_from (p ∷ ps) zero a = a
places_from (p ∷ ps) (suc i) a = places_from ps i a.1

abbrev is_last : Place → List Place → Bool
is_last place places = is_filled place && not (list_any (λ other. is_filled other && same_key place.key other.key) places)

-- the keys from one place before
from_before : (places : List Place) (i : ℕ) (place : Place) (last : Bool) → ArePlaces places → 0 < i → slice_get places (i - 1) ≡ Some place → last ≡ is_last place (drop (i - 1 + 1) places) → key_count (rows_in (drop (i - 1) places)) ≡ cond last (key_count (rows_in (drop i places)) + 1) (key_count (rows_in (drop i places)))
from_before places i place last a some at is =
    let e : i - 1 + 1 ≡ i = omega arith in
    let here = drop_at places (i - 1) place at in
    let all = subst ArePlaces here (places_from places (i - 1) a) in
    ap (λ (ps : List Place). key_count (rows_in ps)) here
    ∙ keys_place place (drop (i - 1 + 1) places) all
    ∙ ap (λ (b : Bool). cond b (key_count (rows_in (drop (i - 1 + 1) places)) + 1) (key_count (rows_in (drop (i - 1 + 1) places)))) (sym is)
    ∙ ap (λ (n : ℕ). cond last (key_count (rows_in (drop n places)) + 1) (key_count (rows_in (drop n places)))) e

pub loop-i-preserved-then-is_last_of_key : goal.loop-i-preserved-then-is_last_of_key
loop-i-preserved-then-is_last_of_key c =
    let l = c.is_last_of_key.ensures in
    let r = from_before c.args.places.now c.loop-i.i l.0 c.is_last_of_key.result c.requires.places c.loop-i-test.true l.1 l.2 in
    record {
      within = omega (arith, c.loop-i.invariant.within);
      count_is = ap (λ (n : ℕ). n + 1) c.loop-i.invariant.count_is ∙ sym (rw c.if-is_last_of_key.true at r);
      few = omega (arith, c.loop-i.invariant.few, c.loop-i-test.true);
    }

pub loop-i-preserved : goal.loop-i-preserved
loop-i-preserved c =
    let l = c.is_last_of_key.ensures in
    let r = from_before c.args.places.now c.loop-i.i l.0 c.is_last_of_key.result c.requires.places c.loop-i-test.true l.1 l.2 in
    record {
      within = omega (arith, c.loop-i.invariant.within);
      count_is = c.loop-i.invariant.count_is ∙ sym (rw c.if-is_last_of_key.false at r);
      few = omega (arith, c.loop-i.invariant.few, c.loop-i-test.true);
    }
