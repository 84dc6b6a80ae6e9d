use Rattle.std.proofs.Common.{rules}
use Rattle.session_core.specs.Machine.{on_reject}
use Rattle.session_core.proofs.session.Session.reject.Goals as goal

pub returns-clause-reply : goal.returns-clause-reply
unfolding on_reject
returns-clause-reply c = search rules
