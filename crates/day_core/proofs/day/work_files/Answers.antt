use Rattle.std.proofs.Common.{sym, subst}
use Rattle.replay_core.specs.Telling.{seen}
use Rattle.day_core.specs.Opening.{RanFiles}
use Rattle.day_core.proofs.Openings.{files_not_opened, files_opened}
use Rattle.day_core.proofs.day.work_files.Goals as goal

pub returns-in-Err-clause-ran : goal.returns-in-Err-clause-ran
returns-in-Err-clause-ran g c =
    files_not_opened (g.H.Shelf.told c.args.shelf.now) c.args.files.script.now (g.H.Shelf.left c.args.shelf.now) (g.D.Disk.told c.args.disk) (g.D.Disk.told c.in-Err.refused.1) _
    c.in-Err.refused.0 c.in-Err.ensures.err

pub returns-clause-ran : goal.returns-clause-ran
returns-clause-ran g c =
    let ran = c.work_script-status in
    subst (λ (d : g.row.D.Denot). RanFiles (g.H.Shelf.told c.args.shelf.now) c.args.files.script.now (g.H.Shelf.left ran.new.shelf) (g.D.Disk.told c.args.disk) (g.D.Disk.told d)
    (seen (g.K.Sink.told c.args.out.now) c.args.steps.now) (seen (g.K.Sink.told ran.new.out) ran.new.steps) ran.result) (sym c.close.ensures)
    (files_opened g.D.Disk.told (g.H.Shelf.told c.args.shelf.now) c.args.files.script.now (g.H.Shelf.left ran.new.shelf) c.args.disk c.in-Ok.journal.log c.in-Ok.journal.lines.items
    (g.D.Disk.told ran.new.journal.log.disk) (seen (g.K.Sink.told c.args.out.now) c.args.steps.now) (seen (g.K.Sink.told ran.new.out) ran.new.steps) ran.result
    c.in-Ok.ensures.ok (λ honest. g.met.D.Disk.as_it_reads c.args.disk honest) ran.ensures.ran)
