use Rattle.std.proofs.Common.{sym, subst}
use Rattle.venue_words.specs.declared.price.Best.{Best}
use Rattle.venue_words.specs.Best.{IsNationalBest}
use Rattle.venue_words.specs.BestLaws.{best_of_is_meant}
use Rattle.plain_market.proofs.pegging.national.Goals as goal

pub returns : goal.returns
returns c =
    subst (λ (best : Best). IsNationalBest c.args.rows.now best) (sym c.best_of.ensures) (best_of_is_meant c.args.rows.now)
