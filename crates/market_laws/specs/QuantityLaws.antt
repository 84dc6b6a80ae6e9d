-- The quantity that terms ask for, and what a Replace that breaks no rule asks for.
use Rattle.std.proofs.Common.{◌≡◌, ℕ, ◌<◌, ◌≤◌, Bool, true, false, cond, List, [], ◌∷◌, ◌++◌, Option, Some, None, refl, arith}
use Rattle.std.specs.Prelude.{nat_le, ℤ, pos, negsuc, option_map, option_and_then, unwrap_or, unsigned_abs}
use Rattle.std.proofs.lemmas.Bool.Decides.{nat_tests}
use Rattle.venue_words.specs.declared.command.Command.TheVariants.{Replace}
use Rattle.venue_words.specs.declared.rule.Rule.{Rule}
use Rattle.venue_words.specs.declared.rule.Rule.TheVariants.{TradedQuantity}
use Rattle.venue_words.specs.declared.terms.Terms.{Terms}
use Rattle.eager_meaning.specs.declared.amount.TheConstants.{ONE_AMOUNT}
use Rattle.eager_meaning.specs.declared.order.Live.{Live}
use Rattle.eager_meaning.specs.Orders.{known_of}
use Rattle.eager_meaning.specs.Terms.{quantity_in, quantity_of, within, whole_quotient}
use Rattle.eager_meaning.specs.Verdict.{Test, first_broken, verdict, terms_tests}

some_shares : (o : Option ℤ) → unwrap_or (option_map unsigned_abs (option_and_then (within (pos 1) (pos 999999999)) o)) 0 ≤ 999999999
some_shares None = omega arith
some_shares (Some (pos n)) = grind (arith, nat_tests)
some_shares (Some (negsuc n)) = omega arith

pub quantity_most : (terms : Terms) → quantity_of terms ≤ 999999999
unfolding quantity_in
quantity_most terms = some_shares (whole_quotient ONE_AMOUNT terms.quantity)

rest_holds : (t : Test) (ts : List Test) → first_broken (t ∷ ts) ≡ None → first_broken ts ≡ None
unfolding first_broken
rest_holds t ts h = (elim t.0 as (λ b. cond b (Some t.1) (first_broken ts) ≡ None → first_broken ts ≡ None) [ true ↦ λ e. cc | false ↦ λ e. e ]) h

one_holds : (t : Test) → first_broken (t ∷ []) ≡ None → t.0 ≡ false
unfolding first_broken
one_holds t h =
    let rule : Option Rule = Some t.1 in
    let none : Option Rule = None in
    (elim t.0 as (λ b. cond b rule none ≡ none → b ≡ false) [ true ↦ λ e. cc e | false ↦ λ e. refl ]) h

last_holds : (ts : List Test) (t : Test) → first_broken (ts ++ t ∷ []) ≡ None → t.0 ≡ false
last_holds [] t h = one_holds t h
last_holds (x ∷ xs) t h = last_holds xs t (rest_holds x (xs ++ t ∷ []) h)

more_than : (a b : ℕ) → nat_le a b ≡ false → b < a
more_than a b h = grind (arith, nat_tests)

-- a Replace that breaks no rule asks for more than what traded
pub quantity_above : (member : ℕ) (id orig : List ℕ) (terms : Terms) (tick : ℕ) (used : Bool) (live : Live) → verdict (Replace member id orig terms) (known_of tick used (Some live)) ≡ None → live.order.cum < quantity_of terms
unfolding verdict known_of
quantity_above member id orig terms tick used live h =
    more_than _ _ (last_holds (terms_tests tick terms) (nat_le (quantity_of terms) live.order.cum, TradedQuantity) (rest_holds _ _ (rest_holds _ _ (rest_holds _ _ (rest_holds _ _ h)))))
