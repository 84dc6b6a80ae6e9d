-- The national quote that is kept is the one that all rows give.
use Rattle.std.proofs.Common.{◌≡◌, ℕ, zero, suc, ◌<◌, min, max, nat_eq, Bool, true, false, not, ◌&&◌, cond, ◌≢◌, List, length, map, get_or, set, replicate, Option, Some, None, refl, sym, ◌∙◌, ap, arith}
use Rattle.std.specs.Bool.{OnTrue, OnFalse}
use Rattle.std.specs.Option.{option_eq}
use Rattle.std.proofs.lemmas.Bool.Decides.{nat_tests}
use Rattle.std.proofs.lemmas.List.{map-set, length-map, get_or-map}
use Rattle.venue_words.specs.declared.price.Best.{Best}
use Rattle.venue_words.specs.Best.{either_by, greatest, least, best_of}
use Rattle.best_prices.specs.NextBest.{is_at_least, is_at_most, next_greatest, next_least}
use Rattle.best_prices.proofs.Choices.{max_choice, min_choice, set_wins, set_loses}

max_wins : (now best : Option ℕ) → is_at_least now best ≡ true → either_by max best now ≡ now
max_wins now None h = refl
max_wins None (Some b) h = absurd (cc)
max_wins (Some n) (Some b) h = ap Some (grind (arith, nat_tests))

max_loses : (now best : Option ℕ) → is_at_least now best ≡ false → either_by max best now ≡ best
max_loses now None h = absurd (cc)
max_loses None (Some b) h = refl
max_loses (Some n) (Some b) h = ap Some (grind (arith, nat_tests))

min_wins : (now best : Option ℕ) → is_at_most now best ≡ true → either_by min best now ≡ now
min_wins now None h = refl
min_wins None (Some b) h = absurd (cc)
min_wins (Some n) (Some b) h = ap Some (grind (arith, nat_tests))

min_loses : (now best : Option ℕ) → is_at_most now best ≡ false → either_by min best now ≡ best
min_loses now None h = absurd (cc)
min_loses None (Some b) h = refl
min_loses (Some n) (Some b) h = ap Some (grind (arith, nat_tests))

equal_itself : (x : Option ℕ) → option_eq nat_eq x x ≡ true
equal_itself None = refl
equal_itself (Some n) = grind (arith, nat_tests)

differs : (x y : Option ℕ) → option_eq nat_eq x y ≡ false → x ≡ y → ⊥
differs x y h e = let same : option_eq nat_eq x y ≡ true = ap (option_eq nat_eq x) (sym e) ∙ equal_itself x in cc

greatest_after : (xs : List (Option ℕ)) (i : ℕ) (now : Option ℕ) → i < length xs → next_greatest (greatest xs) (get_or xs i None) now (set xs i now) ≡ greatest (set xs i now)
greatest_after xs i now l =
    let best = greatest xs in
    let was = get_or xs i None in
    elim (is_at_least now best) as (λ t. (is_at_least now best ≡ t) → cond t now (cond (option_eq nat_eq was best) (greatest (set xs i now)) best) ≡ greatest (set xs i now)) [
      | true ↦ λ e. sym (set_wins (either_by max) max_choice now xs i l (max_wins now best e))
      | false ↦ λ e.
          elim (option_eq nat_eq was best) as (λ t. (option_eq nat_eq was best ≡ t) → cond t (greatest (set xs i now)) best ≡ greatest (set xs i now)) [
            | true ↦ λ f. refl
            | false ↦ λ f. sym (set_loses (either_by max) max_choice now xs i (differs was best f) (max_loses now best e))
          ] refl
    ] refl

least_after : (xs : List (Option ℕ)) (i : ℕ) (now : Option ℕ) → i < length xs → next_least (least xs) (get_or xs i None) now (set xs i now) ≡ least (set xs i now)
least_after xs i now l =
    let best = least xs in
    let was = get_or xs i None in
    elim (is_at_most now best) as (λ t. (is_at_most now best ≡ t) → cond t now (cond (option_eq nat_eq was best) (least (set xs i now)) best) ≡ least (set xs i now)) [
      | true ↦ λ e. sym (set_wins (either_by min) min_choice now xs i l (min_wins now best e))
      | false ↦ λ e.
          elim (option_eq nat_eq was best) as (λ t. (option_eq nat_eq was best ≡ t) → cond t (least (set xs i now)) best ≡ least (set xs i now)) [
            | true ↦ λ f. refl
            | false ↦ λ f. sym (set_loses (either_by min) min_choice now xs i (differs was best f) (min_loses now best e))
          ] refl
    ] refl

-- a quote of these prices
abbrev pub quote : Option ℕ → Option ℕ → Best
quote bid offer = record { bid = bid; offer = offer }

abbrev pub bids : List Best → List (Option ℕ)
bids rows = map (λ row. row.bid) rows

abbrev pub offers : List Best → List (Option ℕ)
offers rows = map (λ row. row.offer) rows

next_bid : (rows : List Best) (i : ℕ) (was row best : Best) → i < length rows → was ≡ get_or rows i was → best ≡ best_of rows → next_greatest best.bid was.bid row.bid (bids (set rows i row)) ≡ greatest (bids (set rows i row))
unfolding best_of
next_bid rows i was row best l w b =
    let first : best.bid ≡ greatest (bids rows) = ap (λ (x : Best). x.bid) b in
    let old : was.bid ≡ get_or (bids rows) i None = ap (λ (x : Best). x.bid) w ∙ sym (get_or-map (λ (x : Best). x.bid) rows i was None l) in
    let all : bids (set rows i row) ≡ set (bids rows) i row.bid = map-set (λ (x : Best). x.bid) rows i row in
    let there : i < length (bids rows) = omega (arith, length-map rows (λ (x : Best). x.bid)) in
    rw (first, old, all) (greatest_after (bids rows) i row.bid there)

next_offer : (rows : List Best) (i : ℕ) (was row best : Best) → i < length rows → was ≡ get_or rows i was → best ≡ best_of rows → next_least best.offer was.offer row.offer (offers (set rows i row)) ≡ least (offers (set rows i row))
unfolding best_of
next_offer rows i was row best l w b =
    let first : best.offer ≡ least (offers rows) = ap (λ (x : Best). x.offer) b in
    let old : was.offer ≡ get_or (offers rows) i None = ap (λ (x : Best). x.offer) w ∙ sym (get_or-map (λ (x : Best). x.offer) rows i was None l) in
    let all : offers (set rows i row) ≡ set (offers rows) i row.offer = map-set (λ (x : Best). x.offer) rows i row in
    let there : i < length (offers rows) = omega (arith, length-map rows (λ (x : Best). x.offer)) in
    rw (first, old, all) (least_after (offers rows) i row.offer there)

-- the prices that are kept are the national quote of the rows
pub next_is : (rows all : List Best) (i : ℕ) (was row best : Best) (bid offer : Option ℕ) → i < length rows → was ≡ get_or rows i was → best ≡ best_of rows → all ≡ set rows i row → bid ≡ next_greatest best.bid was.bid row.bid (bids all) → offer ≡ next_least best.offer was.offer row.offer (offers all) → quote bid offer ≡ best_of (set rows i row)
unfolding best_of
next_is rows all i was row best bid offer l w b a hb ho =
    let eb : bid ≡ greatest (bids (set rows i row)) = hb ∙ ap (λ (xs : List Best). next_greatest best.bid was.bid row.bid (bids xs)) a ∙ next_bid rows i was row best l w b in
    let eo : offer ≡ least (offers (set rows i row)) = ho ∙ ap (λ (xs : List Best). next_least best.offer was.offer row.offer (offers xs)) a ∙ next_offer rows i was row best l w b in
    ap (λ (x : Option ℕ). quote x offer) eb ∙ ap (λ (y : Option ℕ). quote (greatest (bids (set rows i row))) y) eo

equal_parts : (x y : Option ℕ) → option_eq nat_eq x y ≡ true → x ≡ y
equal_parts None None h = refl
equal_parts None (Some y) h = absurd (cc)
equal_parts (Some x) None h = absurd (cc)
equal_parts (Some x) (Some y) h = ap Some (grind (arith, nat_tests))

and_parts : (a b : Bool) → not (a && b) ≡ false → (a ≡ true) × (b ≡ true)
and_parts true true h = (refl, refl)
and_parts true false h = absurd (cc)
and_parts false b h = absurd (cc)

-- whether two quotes differ
abbrev pub differ : Best → Best → Bool
differ next old = not (option_eq nat_eq next.bid old.bid && option_eq nat_eq next.offer old.offer)

differ_itself : (x : Best) → differ x x ≡ false
differ_itself x = let a = equal_itself x.bid in let b = equal_itself x.offer in rw (a, b) refl

pub told_change : (told : Bool) (next old a b : Best) → told ≡ differ next old → next ≡ a → old ≡ b → OnTrue told (a ≢ b)
told_change true next old a b e f g =
    λ h. let same : differ next old ≡ false = ap (λ (x : Best). differ x old) (f ∙ h ∙ sym g) ∙ differ_itself old in cc
told_change false next old a b e f g = tt

pub told_none : (told : Bool) (next old a b : Best) → told ≡ differ next old → next ≡ a → old ≡ b → OnFalse told (a ≡ b)
told_none true next old a b e f g = tt
told_none false next old a b e f g =
    let parts = and_parts _ _ (sym e) in
    let eb : next.bid ≡ old.bid = equal_parts next.bid old.bid parts.0 in
    let eo : next.offer ≡ old.offer = equal_parts next.offer old.offer parts.1 in
    sym f ∙ ap (λ (x : Option ℕ). quote x next.offer) eb ∙ ap (λ (y : Option ℕ). quote old.bid y) eo ∙ g

-- rows without a quote give none
pub none_of_empty : (n : ℕ) → quote None None ≡ best_of (replicate n (quote None None))
unfolding best_of
none_of_empty zero = refl
none_of_empty (suc n) = none_of_empty n
