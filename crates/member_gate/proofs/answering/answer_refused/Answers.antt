use Rattle.std.proofs.Common.{rules}
use Rattle.member_gate.proofs.answering.answer_refused.Goals as goal

pub returns-in_ok-reject-in-Reject-clause-reply : goal.returns-in_ok-reject-in-Reject-clause-reply
returns-in_ok-reject-in-Reject-clause-reply c = search rules

pub returns-in_ok-reject-in-Reject-clause-some : goal.returns-in_ok-reject-in-Reject-clause-some
returns-in_ok-reject-in-Reject-clause-some c = search rules
