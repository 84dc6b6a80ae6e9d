-- An order as it rests, by what is shown of it.
use Rattle.std.proofs.Common.{◌≡◌, ℕ, ◌≤◌, true, false, cond, List, [], ◌∷◌, ◌++◌, Option, Some, None, refl, ap, sym, ◌∙◌, subst, arith}
use Rattle.std.specs.Prelude.{◌==◌, option_map}
use Rattle.std.specs.List.{AllByRecursion}
use Rattle.venue_words.specs.declared.price.TheConstants.{PRICE_END}
use Rattle.venue_words.specs.declared.price.Best.{Best}
use Rattle.venue_words.specs.declared.price.Side.{Side}
use Rattle.venue_words.specs.declared.price.Side.TheVariants.{Buy, Sell}
use Rattle.venue_words.specs.declared.row.Priced.{Priced}
use Rattle.venue_words.specs.Peg.{value_under}
use Rattle.venue_words.specs.Price.{price_shown, price_of, value_of}
use Rattle.venue_words.specs.Best.{best_of}
use Rattle.eager_meaning.specs.Showing.{row_of_order}
use Rattle.eager_meaning.specs.State.{State}
use Rattle.market_laws.specs.Placed.{IsPlaced, IsPlacedBook}
use Rattle.market_laws.specs.PriceLaws.{row_most, value_of_price}

some_number : (m n : ℕ) → Some m ≡ Some n → m ≡ n
some_number m n e = cc

side_most : (side : Side) (v : ℕ) → v ≤ PRICE_END → price_of side v ≤ PRICE_END
side_most Buy v most = most
side_most Sell v most = omega arith

-- no price that is shown is beyond the end of the prices
shown_within : (side : Side) (value : Option ℕ) (p : ℕ) → ((v : ℕ) → value ≡ Some v → v ≤ PRICE_END) → option_map (price_of side) value ≡ Some p → p ≤ PRICE_END
shown_within side None p most e = cc
shown_within side (Some v) p most e = subst (λ n. n ≤ PRICE_END) (some_number _ _ e) (side_most side v (most v refl))

value_again : (side : Side) (value : Option ℕ) → ((v : ℕ) → value ≡ Some v → v ≤ PRICE_END) → option_map (value_of side) (option_map (price_of side) value) ≡ value
value_again side None most = refl
value_again side (Some v) most = ap Some (value_of_price side v (most v refl))

most_of : (best : Best) (x : Priced) → x.value ≡ value_under best x.row → (v : ℕ) → x.value ≡ Some v → v ≤ PRICE_END
most_of best x priced v e = row_most best x.row v (sym priced ∙ e)

pub within : (best : Best) (x : Priced) (p : ℕ) → x.value ≡ value_under best x.row → price_shown x ≡ Some p → p ≤ PRICE_END
within best x p priced e = shown_within x.row.key.side x.value p (most_of best x priced) e

-- a row with its price and its time is that row again
pub again : (best : Best) (x : Priced) → x.value ≡ value_under best x.row
    → record { row = x.row; value = option_map (value_of x.row.key.side) (price_shown x); time = x.time } ≡ x
again best x priced =
    ap (λ (value : Option ℕ). record { row = x.row; value = value; time = x.time }) (value_again x.row.key.side x.value (most_of best x priced))

-- ---- a row that is found is priced as all are

some_row : (x y : Priced) → Some x ≡ Some y → x ≡ y
some_row x y e = cc

found_of : (P : Priced → Type 0) (number : ℕ) (rows : List Priced) (x : Priced) → AllByRecursion P rows → row_of_order number rows ≡ Some x → P x
unfolding row_of_order
found_of P number [] x all e = cc
found_of P number (y ∷ ys) x all e =
    elim (y.row.order == number) as (λ b. cond b (Some y) (row_of_order number ys) ≡ Some x → P x) [
      | true ↦ λ f. subst P (some_row _ _ f) all.0
      | false ↦ λ f. found_of P number ys x all.1 f
    ] e

found_of_both : (P Q R : Priced → Type 0) → ((x : Priced) → P x → R x) → ((x : Priced) → Q x → R x) → (number : ℕ) (rows others : List Priced) (x : Priced)
    → AllByRecursion P rows → AllByRecursion Q others → row_of_order number (rows ++ others) ≡ Some x → R x
unfolding row_of_order
found_of_both P Q R p q number [] others x all more e = q x (found_of Q number others x more e)
found_of_both P Q R p q number (y ∷ ys) others x all more e =
    elim (y.row.order == number) as (λ b. cond b (Some y) (row_of_order number (ys ++ others)) ≡ Some x → R x) [
      | true ↦ λ f. subst R (some_row _ _ f) (p y all.0)
      | false ↦ λ f. found_of_both P Q R p q number ys others x all.1 more f
    ] e

pub priced_by : (best : Best) (s : State) (number : ℕ) (x : Priced) → IsPlacedBook s → best ≡ best_of s.markets
    → row_of_order number (s.buys ++ s.sells) ≡ Some x → x.value ≡ value_under best x.row
priced_by best s number x placed quote found =
    rw quote (found_of_both (IsPlaced (best_of s.markets) s.orders Buy) (IsPlaced (best_of s.markets) s.orders Sell)
    (λ (y : Priced). y.value ≡ value_under (best_of s.markets) y.row) (λ y p. p.priced) (λ y p. p.priced) number s.buys s.sells x placed.buys placed.sells found)
