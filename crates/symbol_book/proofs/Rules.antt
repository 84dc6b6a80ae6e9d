-- What a command that breaks no rule has.
use Rattle.std.proofs.Common.{◌≡◌, ℕ, Bool, true, false, List, ◌∷◌, Option, None, refl}
use Rattle.venue_words.specs.declared.command.Command.TheVariants.{New, Cancel, Replace}
use Rattle.venue_words.specs.declared.terms.Terms.{Terms}
use Rattle.venue_words.specs.declared.rule.Rule.{Rule}
use Rattle.eager_meaning.specs.declared.order.Live.{Live}
use Rattle.eager_meaning.specs.Orders.{known_of}
use Rattle.eager_meaning.specs.Verdict.{verdict, first_broken, Test}

first_holds : (a : Bool) (m : Rule) (rest : List Test) → first_broken ((a, m) ∷ rest) ≡ None → a ≡ false
unfolding first_broken
first_holds true m rest p = cc
first_holds false m rest p = refl

-- an id that is not used up
pub new_fresh : (tick member : ℕ) (id : List ℕ) (terms : Terms) (used : Bool) → verdict (New member id terms) (known_of tick used None) ≡ None → used ≡ false
unfolding verdict known_of
new_fresh tick member id terms used p = first_holds _ _ _ p

pub cancel_fresh : (tick member : ℕ) (id orig : List ℕ) (used : Bool) (live : Option Live) → verdict (Cancel member id orig) (known_of tick used live) ≡ None → used ≡ false
unfolding verdict known_of
cancel_fresh tick member id orig used live p = first_holds _ _ _ p

pub replace_fresh : (tick member : ℕ) (id orig : List ℕ) (terms : Terms) (used : Bool) (live : Option Live) → verdict (Replace member id orig terms) (known_of tick used live) ≡ None → used ≡ false
unfolding verdict known_of
replace_fresh tick member id orig terms used live p = first_holds _ _ _ p
