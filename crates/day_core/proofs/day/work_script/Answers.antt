use Rattle.day_core.proofs.Openings.{script_begun, script_no_memory, script_not_begun}
use Rattle.day_core.proofs.day.work_script.Goals as goal

pub returns-in-Err-clause-ran : goal.returns-in-Err-clause-ran
returns-in-Err-clause-ran g c =
    script_no_memory (g.H.Shelf.told c.args.shelf.now) c.args.name.now (g.H.Shelf.left c.args.shelf.now) c.args.journal.now.lines.items (g.D.Disk.told c.args.journal.now.log.disk) _
    c.requires.holds (λ honest file left. g.met.D.Disk.only_now c.args.journal.now.log.disk file honest left)

pub returns-in-Ok-begin-clause-ran : goal.returns-in-Ok-begin-clause-ran
returns-in-Ok-begin-clause-ran g c =
    script_begun (g.H.Shelf.told c.args.shelf.now) c.args.name.now (g.H.Shelf.left c.begin.new.self) (g.H.Shelf.left c.work_file.new.shelf) c.args.journal.now.lines.items
    (g.D.Disk.told c.args.journal.now.log.disk) (g.D.Disk.told c.work_file.new.journal.log.disk) _ _ c.work_file.result
    c.in-Ok-begin.ensures.opens c.work_file.ensures.ran

pub returns-clause-ran : goal.returns-clause-ran
returns-clause-ran g c =
    script_not_begun (g.H.Shelf.told c.args.shelf.now) c.args.name.now (g.H.Shelf.left c.begin.new.self) c.args.journal.now.lines.items (g.D.Disk.told c.args.journal.now.log.disk) _
    c.requires.holds (λ honest file left. g.met.D.Disk.only_now c.args.journal.now.log.disk file honest left) c.in-Err-begin.ensures.closed
