use Rattle.std.proofs.Common.{rules}
use Rattle.session_core.proofs.session.Session.keep_numbers.Goals as goal

pub returns-in_ok-push_numbers-clause-ok : goal.returns-in_ok-push_numbers-clause-ok
returns-in_ok-push_numbers-clause-ok c = search rules

pub returns-in_ok-push_numbers-2-clause-ok : goal.returns-in_ok-push_numbers-2-clause-ok
returns-in_ok-push_numbers-2-clause-ok c = search rules
