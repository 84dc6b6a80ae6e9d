-- Which of three rows goes first.
use Rattle.std.proofs.Common.{◌≡◌, ℕ, true, false, arith}
use Rattle.std.proofs.lemmas.Bool.Decides.{nat_tests}
use Rattle.venue_words.specs.Priority.{is_ahead}

-- what doesn't go before one doesn't go before what goes before that one
pub before_better : (x u y v t e w s f : ℕ) → is_ahead x u y w s f ≡ false → is_ahead v t e w s f ≡ true → is_ahead x u y v t e ≡ false
before_better x u y v t e w s f never does = grind (arith, nat_tests)
