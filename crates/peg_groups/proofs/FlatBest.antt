-- The first active row of the first places.
use Rattle.std.proofs.Common.{◌≡◌, ℕ, ◌+◌, true, false, List, take, Option, Some, None, refl, sym, ◌∙◌, arith, slice_get, is_some}
use Rattle.std.proofs.lemmas.Bool.Decides.{nat_tests}
use Rattle.std.specs.List.{AllByRecursion}
use Rattle.venue_words.specs.ListLaws.{all_weaken}
use Rattle.venue_words.specs.Priority.{is_ahead, is_ahead_if_active}
use Rattle.peg_groups.specs.Flat.{BestPlaceUpTo, IsBestPlace, place_before, place_value}
use Rattle.peg_groups.specs.declared.flat.Place.{Place}
use Rattle.peg_groups.proofs.BestGroup.{before_better}
use Rattle.peg_groups.proofs.Lists.{take_more}

not_self : (v t e : ℕ) → is_ahead v t e v t e ≡ false
not_self v t e = grind (arith, nat_tests)

inactive_behind : (v w : Option ℕ) (t e u f : ℕ) → v ≡ None → is_ahead_if_active v t e w u f ≡ false
inactive_behind v w t e u f h = rw h refl

self_behind : (v : Option ℕ) (t e : ℕ) → is_ahead_if_active v t e v t e ≡ false
self_behind None t e = refl
self_behind (Some v) t e = not_self v t e

-- what doesn't go before one doesn't go before what goes before that one
better_behind : (x v w : Option ℕ) (u y t e s f : ℕ) → is_ahead_if_active x u y w s f ≡ false → is_ahead_if_active v t e w s f ≡ true → is_ahead_if_active x u y v t e ≡ false
better_behind None v w u y t e s f h k = refl
better_behind (Some x) None w u y t e s f h k = refl
better_behind (Some x) (Some v) None u y t e s f h k = cc
better_behind (Some x) (Some v) (Some w) u y t e s f h k = before_better x u y v t e w s f h k

some_value : (o : Option ℕ) → is_some o ≡ true → (v : ℕ) × (o ≡ Some v)
some_value None h = cc
some_value (Some v) h = (v, refl)

pub none_value : (o : Option ℕ) → is_some o ≡ false → o ≡ None
none_value None h = refl
none_value (Some v) h = cc

-- the next place has no active row
pub keep_place : (places : List Place) (i : ℕ) (place : Place) (best : Option ℕ) → slice_get places i ≡ Some place → place_value place ≡ None → BestPlaceUpTo places i best → BestPlaceUpTo places (i + 1) best
keep_place places i place None at none b = take_more (λ (p : Place). place_value p ≡ None) places i place b at none
keep_place places i place (Some j) at none b = record {
  place = b.place;
  at = b.at;
  active = b.active;
  first = take_more (λ (p : Place). place_before p b.place ≡ false) places i place b.first at (inactive_behind (place_value place) (place_value b.place) place.time place.entry b.place.time b.place.entry none);
}

-- it is the first one that has
pub first_place : (places : List Place) (i : ℕ) (place : Place) → slice_get places i ≡ Some place → is_some (place_value place) ≡ true → AllByRecursion (λ p. place_value p ≡ None) (take i places) → IsBestPlace places (i + 1) i
first_place places i place at some a = record {
  place = place;
  at = at;
  active = some_value (place_value place) some;
  first = take_more (λ (p : Place). place_before p place ≡ false) places i place
      (all_weaken {A = Place} (λ p. place_value p ≡ None) (λ p. place_before p place ≡ false) (λ p h. inactive_behind (place_value p) (place_value place) p.time p.entry place.time place.entry h) (take i places) a)
      at (self_behind (place_value place) place.time place.entry);
}

some_place : {x y : Place} → Some x ≡ Some y → x ≡ y
some_place e = cc

-- it goes before the best one so far
pub next_place : (places : List Place) (i j : ℕ) (place other : Place) → slice_get places i ≡ Some place → slice_get places j ≡ Some other → is_some (place_value place) ≡ true → place_before place other ≡ true → IsBestPlace places i j → IsBestPlace places (i + 1) i
next_place places i j place other at there some does b =
    let same : b.place ≡ other = some_place (sym b.at ∙ there) in
    record {
      place = place;
      at = at;
      active = some_value (place_value place) some;
      first = take_more (λ (p : Place). place_before p place ≡ false) places i place
          (all_weaken {A = Place} (λ p. place_before p b.place ≡ false) (λ p. place_before p place ≡ false) (λ p h. better_behind (place_value p) (place_value place) (place_value b.place) p.time p.entry place.time place.entry b.place.time b.place.entry h (rw same does)) (take i places) b.first)
          at (self_behind (place_value place) place.time place.entry);
    }

-- it doesn't
pub same_place : (places : List Place) (i j : ℕ) (place other : Place) → slice_get places i ≡ Some place → slice_get places j ≡ Some other → place_before place other ≡ false → IsBestPlace places i j → IsBestPlace places (i + 1) j
same_place places i j place other at there never b =
    let same : b.place ≡ other = some_place (sym b.at ∙ there) in
    record {
      place = b.place;
      at = b.at;
      active = b.active;
      first = take_more (λ (p : Place). place_before p b.place ≡ false) places i place b.first at (rw same never);
    }
