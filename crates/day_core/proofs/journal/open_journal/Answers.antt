use Rattle.std.proofs.Common.{◌∙◌, sym, subst}
use Rattle.day_core.specs.Opening.{IsNotOpened}
use Rattle.day_core.proofs.Openings.{has_lines, not_opened}
use Rattle.day_core.proofs.journal.open_journal.Goals as goal

pub returns-in-Ok-open-clause-ok : goal.returns-in-Ok-open-clause-ok
returns-in-Ok-open-clause-ok g c =
    let told = g.D.Disk.told in
    let begun = c.begin.ensures.told in
    record {
      unspent = c.in-Ok-open.ensures.ok.0;
      size = c.in-Ok-open.ensures.ok.1;
      honest = c.in-Ok-open.ensures.honest ∙ begun.honest;
      lines_are = λ h.
          let honest = begun.honest ∙ h in
          let stored = c.in-Ok-open.ensures.stored honest in
          has_lines c.in-Ok-open.lines.items (told c.args.disk) (told c.begin.new.self) (told c.in-Ok-open.log.disk) begun h
          (λ t file le may. g.met.D.Disk.counts_now c.begin.new.self t file honest le may)
          (c.in-Ok-open.ensures.lines honest) stored.0 stored.1 (c.in-Ok-open.ensures.any_moment honest);
    }

pub returns-in-Err-open-clause-err : goal.returns-in-Err-open-clause-err
returns-in-Err-open-clause-err g c =
    let told = g.D.Disk.told in
    subst (IsNotOpened (told c.args.disk) (told c.in-Err-open.disk)) (sym c.opening_refused.ensures)
    (not_opened (told c.args.disk) (told c.begin.new.self) (told c.in-Err-open.disk) c.in-Err-open.refusal c.begin.ensures.told
    (λ honest t file le may. g.met.D.Disk.counts_now c.begin.new.self t file honest le may)
    (λ honest. c.in-Err-open.ensures.damaged honest) (λ honest. c.in-Err-open.ensures.any_moment honest))
