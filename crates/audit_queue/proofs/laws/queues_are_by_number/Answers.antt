use Rattle.audit_queue.proofs.Numbered.{queues_by_number}
use Rattle.audit_queue.proofs.laws.queues_are_by_number.Goals as goal

pub returns : goal.returns
returns c = queues_by_number
