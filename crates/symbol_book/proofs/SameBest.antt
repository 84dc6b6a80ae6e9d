-- Two national quotes are the same exactly where their test says so.
use Rattle.std.proofs.Common.{◌≡◌, ℕ, Bool, true, false, Option, Some, None, refl, ap, subst, sym, ◌∙◌, arith}
use Rattle.std.specs.Prelude.{nat_eq, ◌&&◌}
use Rattle.std.specs.Option.{option_eq}
use Rattle.std.proofs.lemmas.Bool.{eq-eqb}
use Rattle.std.proofs.lemmas.Bool.Decides.{nat_tests}
use Rattle.venue_words.specs.declared.price.Best.{Best}
use Rattle.eager_meaning.specs.Quoting.{same_best}

same_option : (x : Option ℕ) → option_eq nat_eq x x ≡ true
same_option None = refl
same_option (Some n) = eq-eqb n n refl

equal_options : (x y : Option ℕ) → option_eq nat_eq x y ≡ true → x ≡ y
equal_options None None e = refl
equal_options None (Some m) e = cc
equal_options (Some n) None e = cc
equal_options (Some n) (Some m) e = ap Some (grind (arith, nat_tests))

both_true : (a b : Bool) → (a && b) ≡ true → (a ≡ true) × (b ≡ true)
both_true true b e = (refl, e)
both_true false b e = cc

same_parts : (x y : Best) → x.bid ≡ y.bid → x.offer ≡ y.offer → y ≡ x
same_parts x y bid offer =
    let one : y ≡ record { bid = x.bid; offer = y.offer } = ap (λ (b : Option ℕ). record { bid = b; offer = y.offer }) (sym bid) in
    let two : record { bid = x.bid; offer = y.offer } ≡ x = ap (λ (o : Option ℕ). record { bid = x.bid; offer = o }) (sym offer) in
    one ∙ two

pub same_when_equal : (x y : Best) → y ≡ x → same_best x y ≡ true
same_when_equal x y e = subst (λ (z : Best). same_best x z ≡ true) (sym e) (rw (same_option x.bid) (same_option x.offer))

pub differ_when_not : (x y : Best) → (y ≡ x → ⊥) → same_best x y ≡ false
differ_when_not x y d =
    (elim (same_best x y) as (λ b. same_best x y ≡ b → b ≡ false) [
      | true ↦ λ e.
          let both = both_true (option_eq nat_eq x.bid y.bid) (option_eq nat_eq x.offer y.offer) e in
          let bid = equal_options x.bid y.bid both.0 in
          let offer = equal_options x.offer y.offer both.1 in
          absurd (d (same_parts x y bid offer))
      | false ↦ λ e. refl
    ]) refl

-- what a test of two national quotes says
pub ruleset best_tests = (same_when_equal, differ_when_not)
