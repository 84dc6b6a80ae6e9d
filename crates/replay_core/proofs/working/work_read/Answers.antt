use Rattle.std.proofs.Common.{◌∙◌, sym}
use Rattle.replay_core.proofs.Down.{line_kept, numbers_same}
use Rattle.replay_core.proofs.working.work_read.Goals as goal

pub returns-in-Ok-clause-own : goal.returns-in-Ok-clause-own
returns-in-Ok-clause-own g c state s =
    line_kept state c.args.worker.now.desks c.args.line c.own_of-own.result _
    (sym (numbers_same c.args.worker.now.desks state.connections s.desks) ∙ c.config-config.ensures.desks) s.desks
    (record { some = c.own_of-own.ensures.some; none = c.own_of-own.ensures.none })
