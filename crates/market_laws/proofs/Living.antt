-- The side that a Replace which breaks no rule keeps.
use Rattle.std.proofs.Common.{◌≡◌, ℕ, Bool, true, false, cond, not, List, ◌∷◌, Some, None, refl, arith}
use Rattle.std.specs.Prelude.{◌==◌, pos}
use Rattle.std.proofs.lemmas.Bool.Decides.{nat_tests}
use Rattle.venue_words.specs.declared.command.Command.TheVariants.{Replace}
use Rattle.venue_words.specs.declared.terms.Terms.{Terms}
use Rattle.venue_words.specs.declared.rule.Rule.{Rule}
use Rattle.venue_words.specs.declared.price.Side.{Side}
use Rattle.venue_words.specs.declared.price.Side.TheVariants.{Buy, Sell}
use Rattle.venue_words.specs.declared.row.Key.{Key}
use Rattle.venue_words.specs.declared.row.Reference.TheVariants.{Limit}
use Rattle.venue_words.specs.declared.row.Rounding.TheVariants.{Unrounded}
use Rattle.eager_meaning.specs.declared.order.Live.{Live}
use Rattle.eager_meaning.specs.Orders.{known_of}
use Rattle.eager_meaning.specs.Terms.{side_of, is_pegged, key_of, peg_reference, offset_of, rounding_of}
use Rattle.eager_meaning.specs.Verdict.{Test, first_broken, verdict, side_code}

third_holds : (a b c : Bool) (k m n : Rule) (rest : List Test) → first_broken ((a, k) ∷ (b, m) ∷ (c, n) ∷ rest) ≡ None → c ≡ false
unfolding first_broken
third_holds true b c k m n rest h = cc
third_holds false true c k m n rest h = cc
third_holds false false true k m n rest h = cc
third_holds false false false k m n rest h = refl

equal_of : (n m : ℕ) → not (n == m) ≡ false → n ≡ m
equal_of n m h = grind (arith, nat_tests)

side_from : (side : Side) (terms : Terms) → terms.side ≡ side_code side → side_of terms ≡ side
side_from Buy terms h = rw h refl
side_from Sell terms h = rw h refl

-- a Replace that breaks no rule has the order's side
pub same_side : (member : ℕ) (id orig : List ℕ) (terms : Terms) (tick : ℕ) (used : Bool) (live : Live) → verdict (Replace member id orig terms) (known_of tick used (Some live)) ≡ None → side_of terms ≡ live.order.side
unfolding verdict known_of
same_side member id orig terms tick used live h =
    side_from live.order.side terms (equal_of _ _ (third_holds _ _ _ _ _ _ _ h))

pub key_side : (tick : ℕ) (terms : Terms) → (key_of tick terms).side ≡ side_of terms
unfolding key_of
key_side tick terms =
    let P : Key → Type 0 = λ key. key.side ≡ side_of terms in
    let pegged : Key = record { side = side_of terms; reference = peg_reference terms.peg; offset = offset_of tick terms; rounding = rounding_of terms.round; grid = tick } in
    let limit : Key = record { side = side_of terms; reference = Limit; offset = pos 0; rounding = Unrounded; grid = tick } in
    elim (is_pegged terms) as (λ b. P (cond b pegged limit)) [ true ↦ refl | false ↦ refl ]
