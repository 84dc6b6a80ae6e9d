-- How many keys the rows of both sides have.
use Rattle.std.proofs.Common.{◌≡◌, ℕ, suc, ◌==◌, ◌+◌, ◌^◌, ◌<◌, ◌≤◌, Bool, true, false, ◌&&◌, ◌||◌, cond, List, [], ◌∷◌, ◌++◌, length, refl, ap, arith}
use Rattle.std.specs.List.{AllByRecursion, list_any}
use Rattle.venue_words.specs.declared.price.Side.TheVariants.{Buy, Sell}
use Rattle.venue_words.specs.declared.row.Key.{Key}
use Rattle.venue_words.specs.declared.row.Priced.{Priced}
use Rattle.venue_words.specs.Key.{same_key, reference_number, rounding_number}
use Rattle.venue_words.specs.ListLaws.{all_weaken}
use Rattle.eager_meaning.specs.Work.{key_count}
use Rattle.peg_groups.specs.KeyCount.{key_count as side_keys}
use Rattle.match_core.specs.SidesView.{IsRowOf, AreBoth}
use Rattle.match_core.proofs.SideRows.{rows_fit}

-- the number is one and the same
pub same_count : (rows : List Priced) → side_keys rows ≡ key_count rows
same_count [] = refl
same_count (x ∷ rows) =
    let h = same_count rows in
    elim (list_any (λ y. same_key x.row.key y.row.key) rows) as (λ b. cond b (side_keys rows) (1 + side_keys rows) ≡ cond b (key_count rows) (1 + key_count rows)) [ true ↦ h | false ↦ ap (λ (n : ℕ). 1 + n) h ]

pub few_keys : (rows : List Priced) → key_count rows ≤ length rows
few_keys [] = omega arith
few_keys (x ∷ rows) =
    let h = few_keys rows in
    elim (list_any (λ y. same_key x.row.key y.row.key) rows) as (λ b. cond b (key_count rows) (1 + key_count rows) ≤ suc (length rows)) [ true ↦ omega (arith, h) | false ↦ omega (arith, h) ]

any_both : (p : Priced → Bool) (xs ys : List Priced) → AllByRecursion (λ y. p y ≡ false) ys → list_any p (xs ++ ys) ≡ list_any p xs
any_both p [] [] a = refl
any_both p [] (y ∷ ys) a = rw a.0 (any_both p [] ys a.1)
any_both p (x ∷ xs) ys a = ap (λ (b : Bool). p x || b) (any_both p xs ys a)

one_fails : (p q r : Bool) → (p && (q && (false && r))) ≡ false
one_fails true true r = refl
one_fails true false r = refl
one_fails false q r = refl

other_key : (a b : Key) → a.side ≡ Buy → b.side ≡ Sell → same_key a b ≡ false
other_key a b s t =
    rw (s, t) (one_fails _ _ ((reference_number a.reference == reference_number b.reference) && (rounding_number a.rounding == rounding_number b.rounding)))

-- no buy has a key of a sell
pub count_both : (latest : ℕ) (buys sells : List Priced) → AreBoth latest buys sells → key_count (buys ++ sells) ≡ key_count buys + key_count sells
count_both latest buys sells b = go buys b.buys_are.each where
  go : (xs : List Priced) → AllByRecursion (IsRowOf Buy latest) xs → key_count (xs ++ sells) ≡ key_count xs + key_count sells
  go [] a = omega arith
  go (x ∷ xs) a =
      let i = go xs a.1 in
      let none = any_both (λ y. same_key x.row.key y.row.key) xs sells (all_weaken (IsRowOf Sell latest) (λ y. same_key x.row.key y.row.key ≡ false) (λ y k. other_key x.row.key y.row.key a.0.side_is k.side_is) sells b.sells_are.each) in
      rw none
      (elim (list_any (λ y. same_key x.row.key y.row.key) xs) as (λ v. cond v (key_count (xs ++ sells)) (1 + key_count (xs ++ sells)) ≡ cond v (key_count xs) (1 + key_count xs) + key_count sells) [ true ↦ i | false ↦ omega (arith, i) ])

pub keys_of_both : (latest : ℕ) (buys sells : List Priced) (m n : ℕ) → AreBoth latest buys sells → m ≡ side_keys buys → n ≡ side_keys sells → m + n ≡ key_count (buys ++ sells)
keys_of_both latest buys sells m n b e d = let p = same_count buys in let q = same_count sells in let r = count_both latest buys sells b in omega (arith, e, d, p, q, r)

pub keys_fit : (latest : ℕ) (buys sells : List Priced) (m n : ℕ) → AreBoth latest buys sells → latest < 2 ^ 32 → m ≡ side_keys buys → n ≡ side_keys sells → m + n < 2 ^ 64
keys_fit latest buys sells m n b h e d =
    let p = same_count buys in
    let q = same_count sells in
    let r = few_keys buys in
    let s = few_keys sells in
    let t = rows_fit latest buys sells b h in
    omega (arith, e, d, p, q, r, s, t)

-- ---- the width of both sides after one more key at most

pub width_most : (latest : ℕ) (buys sells : List Priced) (w v w1 v1 : ℕ) → AreBoth latest buys sells → w ≡ side_keys buys → v ≡ side_keys sells → w1 + v1 ≤ w + v + 1 → w1 + v1 ≤ key_count (buys ++ sells) + 1
width_most latest buys sells w v w1 v1 b e d h = let k = keys_of_both latest buys sells w v b e d in omega (arith, k, h)

pub width_same : (latest : ℕ) (buys sells : List Priced) (w v w1 v1 : ℕ) → AreBoth latest buys sells → w ≡ side_keys buys → v ≡ side_keys sells → w1 + v1 ≡ w + v → w1 + v1 ≤ key_count (buys ++ sells)
width_same latest buys sells w v w1 v1 b e d h = let k = keys_of_both latest buys sells w v b e d in omega (arith, k, h)
