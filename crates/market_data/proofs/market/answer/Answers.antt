use Rattle.std.proofs.Common.{Err, sym, ap, subst}
use Rattle.std.specs.Prelude.{option_and_then}
use Rattle.program_words.specs.Words.{texts}
use Rattle.market_data.specs.Plan.{form_of}
use Rattle.market_data.specs.Runs.{Ends}
use Rattle.market_data.proofs.RunSteps.{words_refused}
use Rattle.market_data.proofs.market.answer.Goals as goal

pub returns-in-Err-clause-ends : goal.returns-in-Err-clause-ends
returns-in-Err-clause-ends g c =
    subst (Ends _ _ _ _ _) (sym c.refusal_of.ensures) (words_refused _ (texts c.args.words.now) _ _ c.in-Err.fault
    (λ bad. ap (λ r. option_and_then form_of r) (c.in-Err.ensures.bad_words (ap Err bad))))
