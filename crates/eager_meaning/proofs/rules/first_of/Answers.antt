use Rattle.std.proofs.Common.{sym, ◌∙◌}
use Rattle.eager_meaning.proofs.VerdictLaws.{broken_at_once, broken_later}
use Rattle.eager_meaning.proofs.rules.first_of.Goals as goal

pub returns-in-Some : goal.returns-in-Some
returns-in-Some c = broken_at_once c.args.tests.now c.args.others.now c.in-Some.rule c.in-Some.ensures

pub returns-in-None : goal.returns-in-None
returns-in-None c =
    c.first_broken-in-None.ensures ∙ sym (broken_later c.args.tests.now c.args.others.now c.in-None.ensures)
