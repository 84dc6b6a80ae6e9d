use Rattle.std.proofs.Common.{refl, sym, ◌∙◌, subst}
use Rattle.std.specs.Io.KnownBytes.{Appends}
use Rattle.io_edge.specs.Grows.{AppendsPrefix}
use Rattle.replay_core.specs.Telling.{Halts}
use Rattle.replay_core.proofs.LineByLine.{line_begins, line_leads, line_refused, nothing_put}
use Rattle.replay_core.proofs.lines.play_line.Goals as goal

pub returns-then-is_empty-clause-ok : goal.returns-then-is_empty-clause-ok
returns-then-is_empty-clause-ok g c place there line =
    let worked = c.in-Ok.ensures.answer place there line in
    record {
      next = worked.0;
      behind = worked.2;
      leads = line_leads _ _ place worked.0 c.args.line.text.now c.work_line.new.out.items c.requires.clear worked.1
          (c.in-Ok.ensures.steps place there line) (subst (Appends _ _) c.as_slice-output.ensures.value
          (nothing_put _ _ (sym c.is_empty.ensures ∙ c.if-is_empty.true)));
    }

pub returns-in-Ok-put-clause-ok : goal.returns-in-Ok-put-clause-ok
returns-in-Ok-put-clause-ok g c place there line =
    let worked = c.in-Ok.ensures.answer place there line in
    record {
      next = worked.0;
      behind = worked.2;
      leads = line_leads _ _ place worked.0 c.args.line.text.now c.work_line.new.out.items c.requires.clear worked.1
          (c.in-Ok.ensures.steps place there line) (subst (Appends _ _) c.as_slice-output.ensures.value c.in-Ok-put.ensures.bytes);
    }

pub returns-in-Err-put-clause-err : goal.returns-in-Err-put-clause-err
returns-in-Err-put-clause-err g c place there line =
    let worked = c.in-Ok.ensures.answer place there line in
    line_begins _ _ place worked.0 c.args.line.text.now c.work_line.new.out.items c.requires.clear worked.1
    (c.in-Ok.ensures.steps place there line) (subst (AppendsPrefix _ _) c.as_slice-output.ensures.value c.in-Err-put.ensures.bytes)

pub returns-in-Err-clause-err : goal.returns-in-Err-clause-err
returns-in-Err-clause-err g c place there line =
    subst (Halts _ _ _) (sym c.status_of.ensures)
    (line_refused _ _ place c.args.line.text.now c.in-Err.refused c.requires.clear refl (c.in-Err.ensures.steps place there line)
    (c.in-Err.ensures.answer place there line))
