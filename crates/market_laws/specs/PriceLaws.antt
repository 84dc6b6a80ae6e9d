-- No value of a row is beyond the end of the prices.
use Rattle.std.proofs.Common.{◌≡◌, ℕ, ◌-◌, ◌≤◌, Bool, true, false, cond, ◌&&◌, Some, None, refl, arith}
use Rattle.std.specs.Prelude.{min, nat_le, nat_lt, option_map}
use Rattle.std.proofs.lemmas.Bool.Decides.{nat_tests}
use Rattle.venue_words.specs.declared.price.TheConstants.{PRICE_END}
use Rattle.venue_words.specs.declared.price.Best.{Best}
use Rattle.venue_words.specs.declared.price.Side.{Side}
use Rattle.venue_words.specs.declared.price.Side.TheVariants.{Buy, Sell}
use Rattle.venue_words.specs.declared.row.Row.{Row}
use Rattle.venue_words.specs.Peg.{in_range, value_under, peg_value, far_value, near_value, has_reference, rounded, shifted, reference_value}
use Rattle.venue_words.specs.Price.{value_of, price_of}
use Rattle.market_laws.specs.Equalities.{some_is}

price_bound : (low high : Bool) (m far cap v : ℕ) → nat_lt (min m far) PRICE_END ≡ high → option_map (λ value. min value cap) (cond (low && high) (Some (min m far)) None) ≡ Some v → v ≤ PRICE_END
price_bound true true m far cap v l h =
    let e : min (min m far) cap ≡ v = some_is _ _ h in
    let less : min m far ≤ PRICE_END = below_end _ l in
    omega arith
  where
    below_end : (n : ℕ) → nat_lt n PRICE_END ≡ true → n ≤ PRICE_END
    below_end n e = grind (arith, nat_tests)
price_bound true false m far cap v l h = cc
price_bound false high m far cap v l h = cc

value_most : (has : Bool) (m far cap v : ℕ) → option_map (λ value. min value cap) (cond has (in_range (min m far)) None) ≡ Some v → v ≤ PRICE_END
value_most false m far cap v h = cc
value_most true m far cap v h = price_bound (nat_le 1 (min m far)) (nat_lt (min m far) PRICE_END) m far cap v refl h

-- a row's value is at most the end of the prices
pub row_most : (best : Best) (row : Row) (v : ℕ) → value_under best row ≡ Some v → v ≤ PRICE_END
unfolding value_under peg_value
row_most best row v h =
    let near = near_value row.key.side best in
    let far = far_value row.key.side best in
    value_most (has_reference row.key.reference best) (rounded row.key.rounding row.key.grid (shifted row.key.side row.key.offset (reference_value row.key.reference near far))) far row.cap v h

-- and the value of its price is that value again
pub value_of_price : (side : Side) (v : ℕ) → v ≤ PRICE_END → value_of side (price_of side v) ≡ v
value_of_price Buy v most = refl
value_of_price Sell v most = omega arith
