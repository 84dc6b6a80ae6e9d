-- The half, and what is left.
use Rattle.std.proofs.Common.{take, drop, length, ◌/◌}
use Rattle.std.proofs.lemmas.List.{take-append-drop}
use Rattle.live_trials.proofs.tests.mem_edge.put_half.Goals as goal

pub returns-in-Ok : goal.returns-in-Ok
returns-in-Ok c = (take (length c.args.text.now / 2) c.args.text.now, drop (length c.args.text.now / 2) c.args.text.now, c.in-Ok.ensures.items, take-append-drop (length c.args.text.now / 2) c.args.text.now)
