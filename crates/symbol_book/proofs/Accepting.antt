-- What a New that breaks no rule has.
use Rattle.std.proofs.Common.{◌≡◌, ℕ, ◌<◌, ◌≤◌, Bool, true, false, refl, arith, List, [], ◌∷◌}
use Rattle.std.specs.Prelude.{Option, Some, None, is_none, unwrap_or, ℤ, pos, negsuc, option_map, option_and_then, unsigned_abs}
use Rattle.std.proofs.lemmas.Bool.Decides.{nat_tests}
use Rattle.venue_words.specs.declared.command.Command.TheVariants.{New}
use Rattle.venue_words.specs.declared.terms.Terms.{Terms}
use Rattle.std.specs.Prelude.{◌++◌, All}
use Rattle.std.proofs.lemmas.List.Elements.{All-append}
use Rattle.venue_words.specs.declared.rule.Rule.{Rule}
use Rattle.eager_meaning.specs.declared.known.Known.{Known}
use Rattle.eager_meaning.specs.declared.order.Order.{Order}
use Rattle.eager_meaning.specs.Entering.{accepted_order}
use Rattle.market_laws.specs.QuantityLaws.{quantity_most}
use Rattle.symbol_book.specs.Orders.{IsSmall}
use Rattle.eager_meaning.specs.Terms.{quantity_in, quantity_of, within, whole_quotient}
use Rattle.eager_meaning.specs.declared.amount.TheConstants.{ONE_AMOUNT}
use Rattle.eager_meaning.specs.Verdict.{verdict, first_broken, Test}

-- the third rule holds where none is broken
third_holds : (a b : Bool) (m n : Rule) (rest : List Test) → first_broken ((a, m) ∷ (b, n) ∷ rest) ≡ None → b ≡ false
unfolding first_broken
third_holds true b m n rest p = cc
third_holds false true m n rest p = cc
third_holds false false m n rest p = refl

-- a number of shares that is in range
shares_within : (o : Option ℤ) → is_none (option_map unsigned_abs (option_and_then (within (pos 1) (pos 999999999)) o)) ≡ false
    → (0 < unwrap_or (option_map unsigned_abs (option_and_then (within (pos 1) (pos 999999999)) o)) 0) × (unwrap_or (option_map unsigned_abs (option_and_then (within (pos 1) (pos 999999999)) o)) 0 ≤ 999999999)
shares_within None p = cc
shares_within (Some (pos n)) p = grind (arith, nat_tests)
shares_within (Some (negsuc n)) p = cc

-- an accepted New has shares
pub has_shares : (member : ℕ) (id : List ℕ) (terms : Terms) (known : Known) → verdict (New member id terms) known ≡ None → (0 < quantity_of terms) × (quantity_of terms ≤ 999999999)
unfolding verdict quantity_in
has_shares member id terms known p = shares_within (whole_quotient ONE_AMOUNT terms.quantity) (third_holds _ _ _ _ _ p)

-- and an id that is not used up
first_holds : (a : Bool) (m : Rule) (rest : List Test) → first_broken ((a, m) ∷ rest) ≡ None → a ≡ false
unfolding first_broken
first_holds true m rest p = cc
first_holds false m rest p = refl

pub is_fresh : (member : ℕ) (id : List ℕ) (terms : Terms) (known : Known) → verdict (New member id terms) known ≡ None → known.used ≡ false
unfolding verdict
is_fresh member id terms known p = first_holds _ _ _ p

-- what a New that breaks no rule has
pub ruleset unbroken = (has_shares, is_fresh)

-- an accepted order is small
small_order : (tick event member : ℕ) (id : List ℕ) (terms : Terms) → IsSmall (accepted_order tick event member id terms)
unfolding accepted_order
small_order tick event member id terms =
    record { within = omega arith; few = quantity_most terms; worth = omega arith }

-- so all are with it
pub small_more : (tick event member : ℕ) (id : List ℕ) (terms : Terms) (orders : List Order) → All IsSmall orders → All IsSmall (orders ++ accepted_order tick event member id terms ∷ [])
small_more tick event member id terms orders small =
    All-append IsSmall orders (accepted_order tick event member id terms ∷ []) small (all_one IsSmall _ (small_order tick event member id terms))
  where
    all_one : (P : Order → Type 0) (x : Order) → P x → All P (x ∷ [])
    all_one P x p = grind (arith, p)
