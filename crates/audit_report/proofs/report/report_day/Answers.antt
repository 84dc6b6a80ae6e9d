use Rattle.std.proofs.Common.{◌∙◌, sym}
use Rattle.audit_report.proofs.Reporting.{output_is, reported}
use Rattle.audit_report.proofs.report.report_day.Goals as goal

pub returns-in-Err-tabulate-clause-long : goal.returns-in-Err-tabulate-clause-long
returns-in-Err-tabulate-clause-long g c = λ line is. c.in-Err-tabulate.ensures.long line (let e = is in cc)

pub returns-in-Ok-page_told-clause-same : goal.returns-in-Ok-page_told-clause-same
returns-in-Ok-page_told-clause-same g c = λ is.
    reported (g.H.Shelf.told c.args.shelf.now.inner) c.args.asked.files.config.now c.args.asked.files.listing.now c.bytes.result.now c.in-Ok-page_told.page.items _ _
    (output_is _ _ c.in-Ok-new.ensures.output c.new-3.ensures.told) (sym c.into_parts-rows.ensures.told ∙ c.bytes.ensures) c.in-Ok-page_told.ensures
    (c.in-Ok-tabulate.ensures.same (let e = is in cc))

pub returns-in-Ok-page_told-clause-differs : goal.returns-in-Ok-page_told-clause-differs
returns-in-Ok-page_told-clause-differs g c = λ line expected is. c.in-Ok-tabulate.ensures.differs line expected (let e = is in cc)
