use Rattle.std.proofs.Common.{rules}
use Rattle.eager_meaning.proofs.VerdictLaws.{new_breaks, replace_breaks}
use Rattle.eager_meaning.proofs.rules.verdict.Goals as goal
use Rattle.eager_meaning.specs.Verdict.{verdict}

pub returns-in-New : goal.returns-in-New
returns-in-New c =
    new_breaks _ _ _ _ _ _ _ _ _ c.in-New.is c.get-terms.ensures c.new_tests.ensures c.terms_tests.ensures c.first_of.ensures

pub returns-in-Replace : goal.returns-in-Replace
returns-in-Replace c =
    replace_breaks _ _ _ _ _ _ _ _ _ _ _ c.in-Replace.is c.get-terms-in-Replace.ensures c.quantity_of.ensures c.replace_tests.ensures c.terms_tests-in-Replace.ensures c.first_of_three.ensures

pub returns-in-Cancel : goal.returns-in-Cancel
unfolding verdict
returns-in-Cancel c = search rules
