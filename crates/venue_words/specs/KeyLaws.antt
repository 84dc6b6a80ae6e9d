-- Equality of keys as the code tests it.
use Rattle.std.proofs.Common.{rules, ◌≡◌, true, false, Bool, ◌&&◌, refl, nat_eq, sym, subst}
use Rattle.std.proofs.lemmas.Bool.{and_parts, eqb-true}
use denote.Enum.Bare.{sameb, same_true}
use Rattle.venue_words.specs.declared.price.Side.{Side}
use Rattle.venue_words.specs.declared.price.Side.TheVariants.{Buy, Sell}
use Rattle.venue_words.specs.declared.row.Key.{Key}
use Rattle.venue_words.specs.declared.row.Reference.{Reference}
use Rattle.venue_words.specs.declared.row.Reference.TheVariants.{Mid, Primary, Market, Limit}
use Rattle.venue_words.specs.declared.row.Rounding.{Rounding}
use Rattle.venue_words.specs.declared.row.Rounding.TheVariants.{Unrounded, Aggressive, Passive}
use Rattle.venue_words.specs.Key.{side_number, reference_number, rounding_number, same_key}
use Rattle.venue_words.specs.contracts.price.Side as side
use Rattle.venue_words.specs.contracts.row.Reference as reference
use Rattle.venue_words.specs.contracts.row.Rounding as rounding
use Rattle.std.specs.Prelude.{◌==◌}
use Rattle.std.specs.Ordering.{int_eq}
use Rattle.std.proofs.lemmas.Bool.Decides.{Decides-int_eq}
use Rattle.venue_words.specs.contracts.row.KeyPartialEq.TheImpl.{eq-value}

pub key_true : (a b : Key) → eq-value.it a b ≡ true → a ≡ b
key_true a b h =
    let k : (int_eq a.offset b.offset && (nat_eq a.grid b.grid && (sameb side.the_type a.side b.side && (sameb reference.the_type a.reference b.reference && sameb rounding.the_type a.rounding b.rounding)))) ≡ true = h in
    let p = and_parts _ _ k in
    let q = and_parts _ _ p.1 in
    let r = and_parts _ _ q.1 in
    let s = and_parts _ _ r.1 in
    let offset_is : a.offset ≡ b.offset = (Decides-int_eq _ _).0 p.0 in
    let grid_is : a.grid ≡ b.grid = eqb-true _ _ q.0 in
    let side_is : a.side ≡ b.side = same_true side.the_type (search rules) _ _ r.0 in
    let reference_is : a.reference ≡ b.reference = same_true reference.the_type (search rules) _ _ s.0 in
    let rounding_is : a.rounding ≡ b.rounding = same_true rounding.the_type (search rules) _ _ s.1 in
    λ i. record { side = side_is i; reference = reference_is i; offset = offset_is i; rounding = rounding_is i; grid = grid_is i }

pub key_same : (a : Key) → eq-value.it a a ≡ true
key_same a = search rules

same_side : (x y : Side) → (side_number x == side_number y) ≡ true → x ≡ y
same_side Buy Buy e = refl
same_side Buy Sell e = cc
same_side Sell Buy e = cc
same_side Sell Sell e = refl

same_reference : (x y : Reference) → (reference_number x == reference_number y) ≡ true → x ≡ y
same_reference Mid Mid e = refl
same_reference Mid Primary e = cc
same_reference Mid Market e = cc
same_reference Mid Limit e = cc
same_reference Primary Mid e = cc
same_reference Primary Primary e = refl
same_reference Primary Market e = cc
same_reference Primary Limit e = cc
same_reference Market Mid e = cc
same_reference Market Primary e = cc
same_reference Market Market e = refl
same_reference Market Limit e = cc
same_reference Limit Mid e = cc
same_reference Limit Primary e = cc
same_reference Limit Market e = cc
same_reference Limit Limit e = refl

same_rounding : (x y : Rounding) → (rounding_number x == rounding_number y) ≡ true → x ≡ y
same_rounding Unrounded Unrounded e = refl
same_rounding Unrounded Aggressive e = cc
same_rounding Unrounded Passive e = cc
same_rounding Aggressive Unrounded e = cc
same_rounding Aggressive Aggressive e = refl
same_rounding Aggressive Passive e = cc
same_rounding Passive Unrounded e = cc
same_rounding Passive Aggressive e = cc
same_rounding Passive Passive e = refl

-- keys that agree in each part are equal
pub same_key-equal : (a b : Key) → same_key a b ≡ true → a ≡ b
same_key-equal a b h =
    let p = and_parts (int_eq a.offset b.offset) _ h in
    let q = and_parts (a.grid == b.grid) _ p.1 in
    let r = and_parts (side_number a.side == side_number b.side) _ q.1 in
    let s = and_parts (reference_number a.reference == reference_number b.reference) _ r.1 in
    let offset_is : a.offset ≡ b.offset = (Decides-int_eq _ _).0 p.0 in
    let grid_is : a.grid ≡ b.grid = eqb-true _ _ q.0 in
    let side_is : a.side ≡ b.side = same_side a.side b.side r.0 in
    let reference_is : a.reference ≡ b.reference = same_reference a.reference b.reference s.0 in
    let rounding_is : a.rounding ≡ b.rounding = same_rounding a.rounding b.rounding s.1 in
    λ i. record { side = side_is i; reference = reference_is i; offset = offset_is i; rounding = rounding_is i; grid = grid_is i }

-- a key agrees with itself
pub same_key-self : (a : Key) → same_key a a ≡ true
same_key-self a = search rules

both_tests : (x y : Bool) → (x ≡ true → y ≡ true) → (y ≡ true → x ≡ true) → x ≡ y
both_tests true y f g = sym (f refl)
both_tests false true f g = g refl
both_tests false false f g = refl

-- the test that the code makes
pub same_key-derived : (a b : Key) → eq-value.it a b ≡ same_key a b
same_key-derived a b =
    both_tests (eq-value.it a b) (same_key a b)
    (λ e. subst (λ (k : Key). same_key a k ≡ true) (key_true a b e) (same_key-self a))
    (λ e. subst (λ (k : Key). eq-value.it a k ≡ true) (same_key-equal a b e) (key_same a))
