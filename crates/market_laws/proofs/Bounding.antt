-- The price of a trade is within the quote that prices its two rows.
use Rattle.std.proofs.Common.{◌≡◌, ℕ, ◌+◌, ◌-◌, ◌*◌, ◌≤◌, Bool, true, false, cond, ◌&&◌, ◌||◌, Option, Some, None, refl, sym, ◌∙◌, subst, inl, inr, arith}
use Rattle.std.specs.Prelude.{◌⊎◌, min, nat_le, nat_lt, ◌==◌, option_map, unwrap_or}
use Rattle.std.proofs.lemmas.Bool.Decides.{nat_tests}
use Rattle.venue_words.specs.declared.price.TheConstants.{PRICE_END}
use Rattle.venue_words.specs.declared.price.Best.{Best}
use Rattle.venue_words.specs.declared.price.Side.{Side}
use Rattle.venue_words.specs.declared.price.Side.TheVariants.{Buy, Sell}
use Rattle.venue_words.specs.declared.row.Row.{Row}
use Rattle.venue_words.specs.declared.row.Priced.{Priced}
use Rattle.venue_words.specs.Best.{both_pass}
use Rattle.venue_words.specs.Peg.{in_range, value_under, peg_value, far_value, near_value, has_reference, holds_when_locked, rounded, shifted, reference_value}
use Rattle.venue_words.specs.Price.{crosses, values_cross, price_shown, price_of}
use Rattle.venue_words.specs.Priority.{is_older}
use Rattle.eager_meaning.specs.Matching.{fill_price}
use Rattle.market_laws.specs.Equalities.{some_is}
use Rattle.market_laws.specs.Trading.{IsWithinQuote}
use Rattle.market_laws.specs.Placed.{opposite}
use Rattle.market_laws.specs.PriceLaws.{row_most}

tested : (n : ℕ) → nat_le 1 n ≡ true → 1 ≤ n
tested n e = grind (arith, nat_tests)

bound_of : (low high : Bool) (m far cap v : ℕ) → nat_le 1 (min m far) ≡ low → option_map (λ value. min value cap) (cond (low && high) (Some (min m far)) None) ≡ Some v → (v ≤ far) × (1 ≤ far)
bound_of true true m far cap v l h =
    let e : min (min m far) cap ≡ v = some_is _ _ h in
    let one : 1 ≤ min m far = tested _ l in
    (omega arith, omega arith)
bound_of true false m far cap v l h = cc
bound_of false high m far cap v l h = cc

value_bound : (has : Bool) (m far cap v : ℕ) → option_map (λ value. min value cap) (cond has (in_range (min m far)) None) ≡ Some v → (has ≡ true) × ((v ≤ far) × (1 ≤ far))
value_bound false m far cap v h = cc
value_bound true m far cap v h = (refl, bound_of (nat_le 1 (min m far)) (nat_lt (min m far) PRICE_END) m far cap v refl h)

-- a bid and an offer that is not below it
record HasQuote (bid offer : Option ℕ) : Type 0 where
  b : ℕ
  o : ℕ
  is_bid : bid ≡ Some b
  is_offer : offer ≡ Some o
  uncrossed : b ≤ o

at_most : (b o : ℕ) (holds : Bool) → (nat_lt b o || ((b == o) && holds)) ≡ true → b ≤ o
at_most b o true h = grind (arith, nat_tests)
at_most b o false h = grind (arith, nat_tests)

quote_of : (bid offer : Option ℕ) (holds : Bool) → (both_pass nat_lt bid offer || (both_pass (λ b o. b == o) bid offer && holds)) ≡ true → HasQuote bid offer
quote_of None offer holds h = cc
quote_of (Some b) None holds h = cc
quote_of (Some b) (Some o) holds h = record { b = b; o = o; is_bid = refl; is_offer = refl; uncrossed = at_most b o holds h }

-- what the value of a row says of the quote
record IsBounded (best : Best) (side : Side) (v : ℕ) : Type 0 where
  quote : HasQuote best.bid best.offer
  far : v ≤ far_value side best
  there : 1 ≤ far_value side best

bounded : (best : Best) (row : Row) (v : ℕ) → value_under best row ≡ Some v → IsBounded best row.key.side v
unfolding value_under peg_value
bounded best row v h =
    let near = near_value row.key.side best in
    let far = far_value row.key.side best in
    let r = value_bound (has_reference row.key.reference best) (rounded row.key.rounding row.key.grid (shifted row.key.side row.key.offset (reference_value row.key.reference near far))) far row.cap v h in
    record { quote = quote_of best.bid best.offer (holds_when_locked row.key.reference) r.0; far = r.1.0; there = r.1.1 }

-- the prices of a buy and of a sell that cross
within : (best : Best) (q : HasQuote best.bid best.offer) (v w p : ℕ) → v ≤ far_value Buy best → w ≤ far_value Sell best → 1 ≤ far_value Sell best → PRICE_END ≤ v + w → (p ≡ v) ⊎ (p ≡ PRICE_END - w) → IsWithinQuote best p
within best q v w p h k l c is =
    let h' : v ≤ 2 * q.o = subst (λ (x : Option ℕ). v ≤ 2 * unwrap_or x 0) q.is_offer h in
    let k' : w ≤ PRICE_END - 2 * q.b = subst (λ (x : Option ℕ). w ≤ PRICE_END - 2 * unwrap_or x 0) q.is_bid k in
    let l' : 1 ≤ PRICE_END - 2 * q.b = subst (λ (x : Option ℕ). 1 ≤ PRICE_END - 2 * unwrap_or x 0) q.is_bid l in
    record {
      bid = q.b;
      offer = q.o;
      is_bid = q.is_bid;
      is_offer = q.is_offer;
      uncrossed = q.uncrossed;
      low = elim is [ inl e ↦ omega arith | inr e ↦ omega arith ];
      high = elim is [ inl e ↦ omega arith | inr e ↦ omega arith ];
    }

-- two values that cross
record AreCrossed (x y : Option ℕ) : Type 0 where
  v : ℕ
  w : ℕ
  is_v : x ≡ Some v
  is_w : y ≡ Some w
  enough : PRICE_END ≤ v + w

enough_of : (n m : ℕ) → nat_le n m ≡ true → n ≤ m
enough_of n m h = grind (arith, nat_tests)

crossed : (x y : Option ℕ) → values_cross x y ≡ true → AreCrossed x y
crossed None y h = cc
crossed (Some v) None h = cc
crossed (Some v) (Some w) h = record { v = v; w = w; is_v = refl; is_w = refl; enough = enough_of _ _ h }

-- the price is that of one of the two
older : (taker contra : Priced) → (fill_price taker contra ≡ unwrap_or (price_shown taker) 0) ⊎ (fill_price taker contra ≡ unwrap_or (price_shown contra) 0)
unfolding fill_price
older taker contra =
    elim (is_older taker contra) as (λ b. (unwrap_or (price_shown (cond b taker contra)) 0 ≡ unwrap_or (price_shown taker) 0) ⊎ (unwrap_or (price_shown (cond b taker contra)) 0 ≡ unwrap_or (price_shown contra) 0))
    [ true ↦ inl refl | false ↦ inr refl ]

shown_as : (x : Priced) (side : Side) (v : ℕ) → x.row.key.side ≡ side → x.value ≡ Some v → unwrap_or (price_shown x) 0 ≡ price_of side v
shown_as x side v s h = rw (s, h) refl

value_is : (best : Best) (side : Side) (x : Priced) (v : ℕ) → x.row.key.side ≡ side → x.value ≡ value_under best x.row → x.value ≡ Some v → IsBounded best side v
value_is best side x v s p h = subst (λ (z : Side). IsBounded best z v) s (bounded best x.row v (sym p ∙ h))

pub price_within : (best : Best) (side : Side) (taker contra : Priced) → taker.row.key.side ≡ side → contra.row.key.side ≡ opposite side
    → taker.value ≡ value_under best taker.row → contra.value ≡ value_under best contra.row → crosses taker contra ≡ true → IsWithinQuote best (fill_price taker contra)
price_within best Buy taker contra s t p q c =
    let m = crossed taker.value contra.value c in
    let a = value_is best Buy taker m.v s p m.is_v in
    let b = value_is best Sell contra m.w t q m.is_w in
    within best a.quote m.v m.w _ a.far b.far b.there m.enough
    (elim (older taker contra) [ inl e ↦ inl (e ∙ shown_as taker Buy m.v s m.is_v) | inr e ↦ inr (e ∙ shown_as contra Sell m.w t m.is_w) ])
price_within best Sell taker contra s t p q c =
    let m = crossed taker.value contra.value c in
    let a = value_is best Sell taker m.v s p m.is_v in
    let b = value_is best Buy contra m.w t q m.is_w in
    within best b.quote m.w m.v _ b.far a.far a.there (let e = m.enough in omega arith)
    (elim (older taker contra) [ inl e ↦ inr (e ∙ shown_as taker Sell m.v s m.is_v) | inr e ↦ inl (e ∙ shown_as contra Buy m.w t m.is_w) ])

-- ---- no price is above the greatest

shown_most : (best : Best) (x : Priced) → x.value ≡ value_under best x.row → unwrap_or (price_shown x) 0 ≤ PRICE_END
shown_most best x p = go x.value refl where
  side_most : (side : Side) (v : ℕ) → v ≤ PRICE_END → price_of side v ≤ PRICE_END
  side_most Buy v h = h
  side_most Sell v h = omega arith

  go : (value : Option ℕ) → x.value ≡ value → unwrap_or (option_map (price_of x.row.key.side) value) 0 ≤ PRICE_END
  go None e = omega arith
  go (Some v) e = side_most x.row.key.side v (row_most best x.row v (sym p ∙ e))

pub price_most : (best : Best) (taker contra : Priced) → taker.value ≡ value_under best taker.row → contra.value ≡ value_under best contra.row → fill_price taker contra ≤ PRICE_END
price_most best taker contra p q =
    let a = shown_most best taker p in
    let b = shown_most best contra q in
    elim (older taker contra) [ inl e ↦ omega arith | inr e ↦ omega arith ]
