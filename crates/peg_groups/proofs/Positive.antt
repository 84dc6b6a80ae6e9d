-- No value of a key is 0.
use Rattle.std.proofs.Common.{◌≡◌, ℕ, ◌≤◌, ◌&&◌, min, Bool, true, false, cond, Option, Some, None, refl, arith}
use Rattle.std.proofs.lemmas.Bool.{ne_eqb}
use Rattle.std.proofs.lemmas.Bool.Decides.{nat_tests}
use Rattle.std.specs.Prelude.{nat_le, nat_lt}
use Rattle.venue_words.specs.declared.price.TheConstants.{PRICE_END}
use Rattle.venue_words.specs.declared.price.Best.{Best}
use Rattle.venue_words.specs.declared.row.Key.{Key}
use Rattle.venue_words.specs.Peg.{peg_value, in_range, has_reference, near_value, far_value, shifted, reference_value, rounded}
use Rattle.peg_groups.specs.Group.{value_from, value_number}

some_is : {a b : ℕ} → Some a ≡ Some b → a ≡ b
some_is e = cc

none_is : {a : ℕ} {P : Type 0} → ◌≡◌ {A = Option ℕ} None (Some a) → P
none_is e = cc

at_least_one : (a b : ℕ) → (nat_le 1 a && nat_lt a b) ≡ true → 1 ≤ a
at_least_one a b h = grind (arith, nat_tests)

in_range_positive : (v x : ℕ) → in_range v ≡ Some x → 1 ≤ x
in_range_positive v x h =
    (elim (nat_le 1 v && nat_lt v PRICE_END) as (λ b. (nat_le 1 v && nat_lt v PRICE_END) ≡ b → cond b (Some v) None ≡ Some x → 1 ≤ x) [
      | true ↦ λ e k. let same : v ≡ x = some_is k in let least : 1 ≤ v = at_least_one v PRICE_END e in omega arith
      | false ↦ λ e k. none_is k
    ] refl) h

chosen_positive : (b : Bool) (v x : ℕ) → cond b (in_range v) None ≡ Some x → 1 ≤ x
chosen_positive true v x h = in_range_positive v x h
chosen_positive false v x h = none_is h

peg_positive : (key : Key) (best : Best) (x : ℕ) → peg_value key best ≡ Some x → 1 ≤ x
unfolding peg_value
peg_positive key best x h = chosen_positive (has_reference key.reference best)
    (min (rounded key.rounding key.grid (shifted key.side key.offset (reference_value key.reference (near_value key.side best) (far_value key.side best)))) (far_value key.side best)) x h

-- the number of a value tells the value
from_number : (o : Option ℕ) → ((v : ℕ) → o ≡ Some v → 1 ≤ v) → value_from (value_number o) ≡ o
from_number None f = refl
from_number (Some v) f = let h : 1 ≤ v = f v refl in rw (ne_eqb v 0 (omega arith)) refl

pub peg_number : (key : Key) (best : Best) → value_from (value_number (peg_value key best)) ≡ peg_value key best
peg_number key best = from_number (peg_value key best) (λ v e. peg_positive key best v e)
