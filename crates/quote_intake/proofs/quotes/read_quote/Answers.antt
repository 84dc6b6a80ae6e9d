use Rattle.std.proofs.Common.{arith, rules}
use Rattle.std.proofs.lemmas.Grind.{common_steps}
use Rattle.quote_intake.specs.Quote.{quote_in}
use Rattle.quote_intake.proofs.quotes.read_quote.Goals as goal

pub returns-in_default-number_in-2-clause-quote : goal.returns-in_default-number_in-2-clause-quote
unfolding quote_in
returns-in_default-number_in-2-clause-quote c = search rules

pub returns-in_default-price-clause-quote : goal.returns-in_default-price-clause-quote
unfolding quote_in
returns-in_default-price-clause-quote c = grind (arith, common_steps)

pub returns-in_default-price-2-clause-quote : goal.returns-in_default-price-2-clause-quote
unfolding quote_in
returns-in_default-price-2-clause-quote c = search rules

pub returns-clause-quote : goal.returns-clause-quote
unfolding quote_in
returns-clause-quote c = search rules

pub returns-clause-configured : goal.returns-clause-configured
returns-clause-configured c = search rules
