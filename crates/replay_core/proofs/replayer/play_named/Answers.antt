use Rattle.replay_core.proofs.Outcomes.{no_room_named, not_begun_named}
use Rattle.replay_core.proofs.Unwritten.{ran_behind, ran_named}
use Rattle.replay_core.proofs.replayer.play_named.Goals as goal

pub returns-in-Err-clause-ran : goal.returns-in-Err-clause-ran
returns-in-Err-clause-ran g c = no_room_named (g.H.Shelf.told c.args.shelf.now) c.args.name.now _ _

pub returns-in-Ok-begin-clause-ran : goal.returns-in-Ok-begin-clause-ran
returns-in-Ok-begin-clause-ran g c =
    ran_named (g.H.Shelf.told c.args.shelf.now) c.args.name.now _ _ c.in-Ok-begin.ensures.opens
    (ran_behind (g.H.Shelf.left c.begin.new.self) _ _ _ _ _ _ c.play_file-status.result c.flush_behind.result
    c.flush_behind.ensures.told c.flush_behind.ensures.status c.play_file-status.ensures.ran)

pub returns-clause-ran : goal.returns-clause-ran
returns-clause-ran g c = not_begun_named (g.H.Shelf.told c.args.shelf.now) c.args.name.now _ _ c.in-Err-begin.ensures.closed
