use Rattle.std.proofs.Common.{sym, subst}
use Rattle.venue_words.specs.declared.price.Best.{Best}
use Rattle.venue_words.specs.Best.{IsNationalBest}
use Rattle.venue_words.specs.BestLaws.{best_of_is_meant}
use Rattle.best_prices.proofs.markets.Markets.best.Goals as goal

pub returns-clause-national : goal.returns-clause-national
returns-clause-national c = rw (← c.self.view_is) (subst (λ (best : Best). IsNationalBest c.self.inside.rows.items best) (sym c.self.invariant) (best_of_is_meant c.self.inside.rows.items))
