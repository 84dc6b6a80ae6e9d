-- The keys, the caps and the shares of terms keep to their limits.
use Rattle.std.proofs.Common.{◌≡◌, ℕ, ◌≤◌, true, false, cond, refl, arith, rules}
use Rattle.std.specs.Prelude.{Option, Some, None, ℤ, pos, negsuc, ◌≤ℤ◌, ◌*ℤ◌, option_map, option_and_then, unwrap_or, unsigned_abs, nat_le, int_le, ◌%◌, ◌==◌, ◌&&◌, if◌then◌else◌}
use Rattle.std.specs.Option.{option_map_or}
use Rattle.std.specs.Bool.{then_some}
use Rattle.std.proofs.lemmas.Bool.Decides.{nat_tests}
use Rattle.std.proofs.lemmas.Int.{ints}
use Rattle.venue_words.specs.declared.terms.Terms.{Terms}
use Rattle.venue_words.specs.declared.price.Side.{Side}
use Rattle.venue_words.specs.declared.price.Side.TheVariants.{Buy, Sell}
use Rattle.venue_words.specs.declared.price.TheConstants.{PRICE_END}
use Rattle.venue_words.specs.declared.row.Key.{Key}
use Rattle.venue_words.specs.declared.row.Row.{Row}
use Rattle.venue_words.specs.declared.row.Reference.TheVariants.{Limit}
use Rattle.venue_words.specs.declared.row.Rounding.TheVariants.{Unrounded}
use Rattle.venue_words.specs.Conditions.{IsTick, IsKey, IsRow}
use Rattle.venue_words.specs.Price.{value_of}
use Rattle.eager_meaning.specs.Terms.{within, whole_quotient, price_in, offset_in, offset_of, side_of, is_pegged, peg_reference, rounding_of, key_of, row_of, passes}
use Rattle.eager_meaning.specs.declared.amount.TheConstants.{ONE_AMOUNT, UNIT_AMOUNT}

-- ---- offsets

-- a number from -200 to 200
record IsOffset (n : ℤ) : Type 0 where
  least : negsuc 199 ≤ℤ n
  most : n ≤ℤ pos 200

within_offset : (n : ℤ) → IsOffset (unwrap_or (then_some (int_le (negsuc 199) n && int_le n (pos 200)) n) (pos 0))
within_offset (pos n) =
    (elim (nat_le n 200) as (λ b. nat_le n 200 ≡ b → IsOffset (unwrap_or (then_some b (pos n)) (pos 0))) [
      | true ↦ λ e. record { least = search rules; most = (let h : n ≤ 200 = grind (arith, nat_tests) in omega (arith, ints)) }
      | false ↦ λ e. record { least = search rules; most = search rules }
    ]) refl
within_offset (negsuc n) =
    (elim (nat_le n 199) as (λ b. nat_le n 199 ≡ b → IsOffset (unwrap_or (then_some (b && true) (negsuc n)) (pos 0))) [
      | true ↦ λ e. record { least = (let h : n ≤ 199 = grind (arith, nat_tests) in omega (arith, ints)); most = search rules }
      | false ↦ λ e. record { least = search rules; most = search rules }
    ]) refl

offset_within : (o : Option ℤ) → IsOffset (unwrap_or (option_and_then (within (negsuc 199) (pos 200)) o) (pos 0))
offset_within None = record { least = search rules; most = search rules }
offset_within (Some n) = within_offset n

offset_found : (tick : ℕ) (kind : Option ℕ) (amount : Option ℤ) → IsOffset (unwrap_or (option_and_then (offset_in tick kind) amount) (pos 0))
unfolding offset_in
offset_found tick kind None = record { least = search rules; most = search rules }
offset_found tick kind (Some amount) = offset_within (if passes (λ code. code == 2) kind then option_map (λ ticks. ticks *ℤ pos tick) (whole_quotient ONE_AMOUNT amount) else whole_quotient UNIT_AMOUNT amount)

-- the key of an order's terms
pub key_fits : (tick : ℕ) (terms : Terms) → IsTick tick → IsKey (key_of tick terms)
unfolding key_of
key_fits tick terms grid =
    let offset = offset_found tick terms.offset_kind terms.offset in
    let pegged : Key = record { side = side_of terms; reference = peg_reference terms.peg; offset = offset_of tick terms; rounding = rounding_of terms.round; grid = tick } in
    let limit : Key = record { side = side_of terms; reference = Limit; offset = pos 0; rounding = Unrounded; grid = tick } in
    elim (is_pegged terms) as (λ b. IsKey (cond b pegged limit)) [
      | true ↦ record { least = offset.least; most = offset.most; grid = grid }
      | false ↦ record { least = search rules; most = search rules; grid = grid }
    ]

-- ---- limits

-- a limit's value
record IsCap (cap : ℕ) : Type 0 where
  least : 1 ≤ cap
  most : cap ≤ PRICE_END

value_fits : (side : Side) (price : ℕ) → 2 ≤ price → price ≤ 3999998 → IsCap (value_of side price)
value_fits Buy price low high = record { least = omega arith; most = omega arith }
value_fits Sell price low high = record { least = omega arith; most = omega arith }

tick_price : (side : Side) (tick price : ℕ) → 2 ≤ price → price ≤ 3999998 → IsCap (option_map_or (value_of side) (then_some (price % tick == 0) price) PRICE_END)
tick_price side tick price low high =
    elim (price % tick == 0) as (λ b. IsCap (option_map_or (value_of side) (then_some b price) PRICE_END))
    [ true ↦ value_fits side price low high | false ↦ record { least = omega arith; most = omega arith } ]

no_cap : IsCap PRICE_END
no_cap = record { least = omega arith; most = omega arith }

whole_price : (side : Side) (tick : ℕ) (n : ℤ) → IsCap (option_map_or (value_of side) (option_and_then (λ (units : ℕ). then_some (units % tick == 0) units) (option_map unsigned_abs (then_some (int_le (pos 2) n && int_le n (pos 3999998)) n))) PRICE_END)
whole_price side tick (pos n) =
    (elim (nat_le 2 n) as (λ b. nat_le 2 n ≡ b → IsCap (option_map_or (value_of side) (option_and_then (λ (units : ℕ). then_some (units % tick == 0) units) (option_map unsigned_abs (then_some (b && nat_le n 3999998) (pos n)))) PRICE_END)) [
      | true ↦ λ e.
          (elim (nat_le n 3999998) as (λ c. nat_le n 3999998 ≡ c → IsCap (option_map_or (value_of side) (option_and_then (λ (units : ℕ). then_some (units % tick == 0) units) (option_map unsigned_abs (then_some c (pos n)))) PRICE_END)) [
            | true ↦ λ f. tick_price side tick n (grind (arith, nat_tests)) (grind (arith, nat_tests))
            | false ↦ λ f. no_cap
          ]) refl
      | false ↦ λ e. no_cap
    ]) refl
whole_price side tick (negsuc n) = no_cap

amount_price : (side : Side) (tick : ℕ) (o : Option ℤ) → IsCap (option_map_or (value_of side) (option_and_then (λ (units : ℕ). then_some (units % tick == 0) units) (option_map unsigned_abs (option_and_then (within (pos 2) (pos 3999998)) o))) PRICE_END)
amount_price side tick None = no_cap
amount_price side tick (Some n) = whole_price side tick n

cap_found : (side : Side) (tick : ℕ) (price : Option ℤ) → IsCap (option_map_or (value_of side) (option_and_then (price_in tick) price) PRICE_END)
unfolding price_in
cap_found side tick None = no_cap
cap_found side tick (Some amount) = amount_price side tick (whole_quotient UNIT_AMOUNT amount)

-- the row of an order's terms
pub row_fits : (tick event order member cum : ℕ) (terms : Terms) → IsTick tick → IsRow (row_of tick event order member cum terms)
unfolding row_of
row_fits tick event order member cum terms grid =
    let cap = cap_found (side_of terms) tick terms.price in
    record { key = key_fits tick terms grid; least = cap.least; most = cap.most }

pub row_is : (tick event order member cum : ℕ) (terms : Terms) (row : Row) → row ≡ row_of tick event order member cum terms → IsTick tick → IsRow row
row_is tick event order member cum terms row is grid = rw is (row_fits tick event order member cum terms grid)
