use Rattle.std.proofs.Common.{refl, sym, subst, arith}
use Rattle.std.specs.Io.KnownBytes.{Appends}
use Rattle.io_edge.specs.Grows.{AppendsPrefix}
use Rattle.day_core.specs.Keeping.{IsNew, IsNotKept}
use Rattle.day_core.specs.Middle.{EndsIn}
use Rattle.day_core.proofs.Stepping.{failed_ends, failed_keeps, puts_line, puts_partly, refused_ends, refused_keeps}
use Rattle.day_core.proofs.lines.work_line.Goals as goal

pub keep-requires-clause-room : goal.keep-requires-clause-room
keep-requires-clause-room g c = λ e. c.requires.room (subst (IsNew _ _ _) e c.in-Ok.ensures.ok)

pub returns-in-Err-clause-ends : goal.returns-in-Err-clause-ends
returns-in-Err-clause-ends g c place there line =
    subst (EndsIn _ _ _ _ _ _) (sym c.in-Err.ensures.err.0) (record { told = refl; steps = omega arith })

pub returns-in-Err-clause-not_kept : goal.returns-in-Err-clause-not_kept
returns-in-Err-clause-not_kept g c =
    subst (IsNotKept _ _ _ _ _ _) (sym c.in-Err.ensures.err.0) (refl, c.in-Err.ensures.err.1, refl)

pub returns-in-Err-line-clause-ends : goal.returns-in-Err-line-clause-ends
returns-in-Err-line-clause-ends g c place there line =
    subst (EndsIn _ _ _ _ _ _) (sym c.refused.ensures)
    (refused_ends g.F.Floor.at _ _ place c.args.line.text.now _ c.in-Err-line.fault
    (record { told = refl; steps = c.in-Err-line.ensures.steps place there line }) (c.in-Err-line.ensures.answer place there line))

pub returns-in-Err-line-clause-not_kept : goal.returns-in-Err-line-clause-not_kept
returns-in-Err-line-clause-not_kept g c =
    subst (IsNotKept g.D.Disk.told c.args.journal.now.lines.items c.args.journal.now.log c.args.journal.now.log c.args.line.number c.args.line.text.now)
    (sym c.refused.ensures)
    (refused_keeps g.D.Disk.told c.args.journal.now.lines.items c.args.journal.now.log c.args.journal.now.log c.args.line.number c.args.line.text.now c.in-Ok.is_new c.in-Err-line.fault c.in-Ok.ensures.ok refl)

pub returns-in-Err-keep-clause-ends : goal.returns-in-Err-keep-clause-ends
returns-in-Err-keep-clause-ends g c place there line =
    failed_ends g.F.Floor.at g.D.Disk.told _ _ _ _ place c.args.line.text.now _ c.in-Err-keep.status
    (record { told = refl; steps = c.in-Ok-line.ensures.steps place there line }) c.in-Err-keep.ensures.err.1

pub returns-in-Err-keep-clause-not_kept : goal.returns-in-Err-keep-clause-not_kept
returns-in-Err-keep-clause-not_kept g c =
    failed_keeps g.D.Disk.told c.args.journal.now.lines.items c.args.journal.now.log c.keep.new.self.log c.args.line.number c.args.line.text.now c.in-Ok.is_new c.in-Err-keep.status c.in-Ok.ensures.ok c.in-Err-keep.ensures.err.0 c.in-Err-keep.ensures.err.1

pub returns-in-Ok-put-clause-puts : goal.returns-in-Ok-put-clause-puts
returns-in-Ok-put-clause-puts g c place there line =
    let worked = c.in-Ok-line.ensures.answer place there line in
    puts_line g.F.Floor.at _ _ place c.args.line.text.now c.line.new.self.phase worked.0 c.line.new.self.output.items worked.1 worked.2
    (c.in-Ok-line.ensures.steps place there line) (subst (Appends _ _) c.as_slice.ensures.value c.in-Ok-put.ensures.bytes)

pub returns-in-Ok-put-clause-kept : goal.returns-in-Ok-put-clause-kept
returns-in-Ok-put-clause-kept g c = (c.in-Ok.is_new, c.in-Ok.ensures.ok, c.in-Ok-keep.ensures.ok)

pub returns-in-Err-put-clause-ends : goal.returns-in-Err-put-clause-ends
returns-in-Err-put-clause-ends g c place there line =
    let worked = c.in-Ok-line.ensures.answer place there line in
    puts_partly g.F.Floor.at _ _ place c.args.line.text.now c.line.new.self.phase worked.0 c.line.new.self.output.items worked.1 worked.2
    (c.in-Ok-line.ensures.steps place there line) (subst (AppendsPrefix _ _) c.as_slice.ensures.value c.in-Err-put.ensures.bytes)

pub returns-in-Err-put-clause-not_kept : goal.returns-in-Err-put-clause-not_kept
returns-in-Err-put-clause-not_kept g c = (c.in-Ok.is_new, c.in-Ok.ensures.ok, c.in-Ok-keep.ensures.ok)
