-- An order that has shares left keeps its row while others trade.
use Rattle.std.proofs.Common.{◌≡◌, ℕ, ◌<◌, Bool, true, false, cond, List, [], ◌∷◌, ◌++◌, Option, Some, None, refl, ap, sym, ◌∙◌, subst, inl, inr, arith}
use Rattle.std.specs.Prelude.{◌⊎◌, map, nat_lt, slice_get}
use Rattle.std.specs.List.{AllByRecursion}
use Rattle.std.proofs.lemmas.Bool.Decides.{nat_tests}
use Rattle.venue_words.specs.declared.price.Best.{Best}
use Rattle.venue_words.specs.declared.row.Row.{Row}
use Rattle.venue_words.specs.declared.row.Priced.{Priced}
use Rattle.venue_words.specs.Priority.{in_priority}
use Rattle.venue_words.specs.Retime.{reprice, retime}
use Rattle.eager_meaning.specs.declared.order.Order.{Order}
use Rattle.eager_meaning.specs.declared.trade.Fill.{Fill}
use Rattle.eager_meaning.specs.declared.trade.Take.{Take}
use Rattle.eager_meaning.specs.Matching.{takes_of, fills_of, row_after, shares_of, unfilled, rows_after}
use Rattle.eager_meaning.specs.Recheck.{Sides, sweep, recheck}
use Rattle.eager_meaning.specs.Trades.{orders_after_all}
use Rattle.eager_meaning.specs.Walk.{total_of}
use Rattle.eager_meaning.specs.Entering.{entered}
use Rattle.market_laws.specs.Equalities.{some_is}
use Rattle.market_laws.specs.Sound.{IsNew, IsHeld, AreSound}
use Rattle.market_laws.proofs.Backing.{found_after, none_before, held_after, taker_trades}
use Rattle.market_laws.proofs.Differing.{IsSameOrDiffers, takes_within}
use Rattle.market_laws.proofs.Sweeping.{own_rows_held, other_rows_held, sweep_keeps, takers_of, turned, sweep_sound, retime_row}

-- ---- an order that has a row among these

abbrev pub HasRowOf : ℕ → List Priced → Type 0
HasRowOf k [] = ⊥
HasRowOf k (y ∷ ys) = (y.row.order ≡ k) ⊎ HasRowOf k ys

pub row_appended : (k : ℕ) (xs ys : List Priced) → HasRowOf k xs → HasRowOf k (xs ++ ys)
row_appended k [] ys h = absurd h
row_appended k (x ∷ xs) ys h = elim h [ inl here ↦ inl here | inr there ↦ inr (row_appended k xs ys there) ]

pub row_behind : (k : ℕ) (xs ys : List Priced) → HasRowOf k ys → HasRowOf k (xs ++ ys)
row_behind k [] ys h = h
row_behind k (x ∷ xs) ys h = inr (row_behind k xs ys h)

pub row_mapped : (f : Priced → Priced) → ((x : Priced) → (f x).row.order ≡ x.row.order) → (k : ℕ) (xs : List Priced) → HasRowOf k xs → HasRowOf k (map f xs)
row_mapped f keeps k [] h = h
row_mapped f keeps k (x ∷ xs) h = elim h [ inl here ↦ inl (keeps x ∙ here) | inr there ↦ inr (row_mapped f keeps k xs there) ]

-- the row of an order with shares left is not filled
left_over : (n : ℕ) (orders : List Order) (x : Priced) (order : Order) → IsHeld n orders x.row → slice_get orders x.row.order ≡ Some order → order.cum < order.quantity → nat_lt 0 x.row.leaves ≡ true
left_over n orders x order h at more =
    let same : h.order ≡ order = some_is _ _ (sym h.is ∙ at) in
    let q : h.order.quantity ≡ order.quantity = ap (λ (o : Order). o.quantity) same in
    let c : h.order.cum ≡ order.cum = ap (λ (o : Order). o.cum) same in
    let sum = h.quantity in
    let some : 0 < x.row.leaves = omega (arith, sum, q, c, more) in
    grind (arith, nat_tests)

row_kept : (n : ℕ) (orders : List Order) (k : ℕ) (order : Order) → slice_get orders k ≡ Some order → order.cum < order.quantity → (rows : List Priced) → AllByRecursion (λ x. IsHeld n orders x.row) rows → HasRowOf k rows → HasRowOf k (unfilled rows)
row_kept n orders k order at more [] a h = h
row_kept n orders k order at more (x ∷ xs) a h =
    elim h [
      | inl here ↦
          let is = left_over n orders x order a.0 (subst (λ (j : ℕ). slice_get orders j ≡ Some order) (sym here) at) more in
          rw is (inl here)
      | inr there ↦
          let rest = row_kept n orders k order at more xs a.1 there in
          elim (nat_lt 0 x.row.leaves) as (λ b. HasRowOf k (cond b (x ∷ unfilled xs) (unfilled xs))) [ true ↦ inr rest | false ↦ rest ]
    ]

same_order : (shares : Priced → ℕ) (x : Priced) → (row_after (shares x) x).row.order ≡ x.row.order
unfolding row_after
same_order shares x = refl

-- ---- orders that are to have a row

-- each of these orders has a row while it has shares left
abbrev pub HaveRows : (ℕ → Type 0) → List Order → List Priced → List Priced → Type 0
HaveRows D orders own others =
    (k : ℕ) (order : Order) → D k → slice_get orders k ≡ Some order → order.cum < order.quantity → HasRowOf k own ⊎ HasRowOf k others

-- the order before its trades had shares left, where it has some after them
record HadMore (orders : List Order) (k : ℕ) : Type 0 where
  order : Order
  is : slice_get orders k ≡ Some order
  more : order.cum < order.quantity

had_more : (fills : List Fill) (orders : List Order) (k : ℕ) (after : Order) → slice_get (orders_after_all fills orders) k ≡ Some after → after.cum < after.quantity → HadMore orders k
had_more fills orders k after at more = go (slice_get orders k) refl where
  go : (before : Option Order) → slice_get orders k ≡ before → HadMore orders k
  go None e = let none = none_before fills orders k e in let no_order = sym none ∙ at in cc
  go (Some before) e =
      let found = found_after fills orders k before e in
      let same : found.order ≡ after = some_is _ _ (sym found.is ∙ at) in
      let c : found.order.cum ≡ after.cum = ap (λ (o : Order). o.cum) same in
      let q : found.order.quantity ≡ after.quantity = ap (λ (o : Order). o.quantity) same in
      let sum = found.adds.cum in
      let still = found.adds.quantity in
      record { order = before; is = e; more = omega (arith, sum, still, c, q, more) }

module _ (D : ℕ → Type 0) (n : ℕ) where
  met_rows : (orders : List Order) (taker : Priced) (sides : Sides) → IsHeld n orders taker.row → AllByRecursion (λ y. IsSameOrDiffers taker.row y.row) sides.own → IsNew taker.row sides.others → AreSound n orders sides.own sides.others → HaveRows D orders sides.own sides.others
      → HaveRows D (orders_after_all (fills_of taker (takes_of taker sides.others)) orders) (rows_after (record { contra = taker; shares = total_of (takes_of taker sides.others) } ∷ []) sides.own) (rows_after (takes_of taker sides.others) sides.others)
  unfolding rows_after
  met_rows orders taker sides h same fresh a have k order d at more =
      let takes : List Take = takes_of taker sides.others in
      let fills : List Fill = fills_of taker takes in
      let next : List Order = orders_after_all fills orders in
      let mine : List Take = record { contra = taker; shares = total_of takes } ∷ [] in
      let before = had_more fills orders k order at more in
      elim (have k before.order d before.is before.more) [
        | inl owned ↦ inl (row_kept n next k order at more _ (own_rows_held n orders taker sides h same fresh a) (row_mapped (λ x. row_after (shares_of mine x) x) (same_order (shares_of mine)) k sides.own owned))
        | inr owned ↦ inr (row_kept n next k order at more _ (other_rows_held n orders taker sides.others h a.others_live a.others_differ fresh) (row_mapped (λ x. row_after (shares_of takes x) x) (same_order (shares_of takes)) k sides.others owned))
      ]

  pub turned_rows : (orders : List Order) (own others : List Priced) → HaveRows D orders own others → HaveRows D orders others own
  turned_rows orders own others have k order d at more = elim (have k order d at more) [ inl owned ↦ inr owned | inr owned ↦ inl owned ]

  pub rechecked_rows : (orders : List Order) (buys sells : List Priced) → AreSound n orders buys sells → HaveRows D orders buys sells → HaveRows D (orders_after_all (recheck buys sells).fills orders) (recheck buys sells).buys (recheck buys sells).sells
  unfolding recheck orders_after_all
  rechecked_rows orders buys sells a have =
      let before : Sides = record { own = buys; others = sells; fills = [] } in
      let half : Sides = sweep (in_priority buys) before in
      let sound = sweep_sound n orders (in_priority buys) before (takers_of n orders buys sells a) a in
      let first = sweep_keeps n (HaveRows D) met_rows orders (in_priority buys) before (takers_of n orders buys sells a) a have in
      let now : List Order = orders_after_all half.fills orders in
      let back = turned n now half.own half.others sound in
      let middle : Sides = record { own = half.others; others = half.own; fills = half.fills } in
      let after : Sides = sweep (in_priority half.others) middle in
      let second = sweep_keeps n (HaveRows D) met_rows orders (in_priority half.others) middle (takers_of n now half.others half.own back) back (turned_rows now half.own half.others first) in
      turned_rows (orders_after_all after.fills orders) after.own after.others second

  pub repriced_rows : (event : ℕ) (best : Best) (orders : List Order) (own others : List Priced) → HaveRows D orders own others → HaveRows D orders (reprice event best own) (reprice event best others)
  unfolding reprice
  repriced_rows event best orders own others have k order d at more =
      let keeps = λ (x : Priced). ap (λ (r : Row). r.order) (retime_row event best x) in
      elim (have k order d at more) [ inl owned ↦ inl (row_mapped (retime event best) keeps k own owned) | inr owned ↦ inr (row_mapped (retime event best) keeps k others owned) ]

  -- an order that enters: what is left of it rests, but of one that may not
  pub entered_rows : (orders : List Order) (taker : Priced) (immediate : Bool) (own others : List Priced) → IsHeld n orders taker.row → IsNew taker.row others → AreSound n orders own others
      → ((k : ℕ) → D k → (k ≡ taker.row.order) × (immediate ≡ false) ⊎ ((order : Order) → slice_get orders k ≡ Some order → order.cum < order.quantity → HasRowOf k own ⊎ HasRowOf k others))
      → HaveRows D (orders_after_all (entered taker immediate own others).fills orders) (entered taker immediate own others).own (entered taker immediate own others).others
  unfolding entered rows_after
  entered_rows orders taker immediate own others h fresh a have k order d at more =
      let takes : List Take = takes_of taker others in
      let fills : List Fill = fills_of taker takes in
      let next : List Order = orders_after_all fills orders in
      let after : Priced = row_after (total_of takes) taker in
      let left : List Priced = unfilled (after ∷ []) in
      let rest : List Priced = rows_after takes others in
      let before = had_more fills orders k order at more in
      let P : List Priced → Type 0 = λ rows. HasRowOf k rows ⊎ HasRowOf k rest in
      elim (have k d) [
        | inl mine ↦
            let trades = taker_trades n orders taker others h a.others_live a.others_differ fresh in
            let held = held_after n orders fills (total_of takes) taker h trades (takes_within taker others).0 in
            let rests : HasRowOf k left = row_kept n next k order at more (after ∷ []) (held, tt) (inl (same_order (λ x. total_of takes) taker ∙ sym mine.0)) in
            rw mine.1 (inl (row_behind k own left rests))
        | inr old ↦
            elim (old before.order before.is before.more) [
              | inl owned ↦ elim immediate as (λ b. P (cond b own (own ++ left))) [ true ↦ inl owned | false ↦ inl (row_appended k own left owned) ]
              | inr owned ↦ inr (row_kept n next k order at more _ (other_rows_held n orders taker others h a.others_live a.others_differ fresh) (row_mapped (λ x. row_after (shares_of takes x) x) (same_order (shares_of takes)) k others owned))
            ]
      ]
