use Rattle.std.proofs.Common.{◌≡◌, arith}
use Rattle.std.proofs.lemmas.Grind.{common_steps}
use Rattle.listing.specs.Lines.{report_line}
use Rattle.audit_core.proofs.Clearing.{report_clear}
use Rattle.audit_core.proofs.part.report_text.Goals as goal

pub returns-clause-clear : goal.returns-clause-clear
returns-clause-clear c =
    let same : c.truncate.new.self.items ≡ report_line c.args.config.now c.args.symbol c.args.report.now = grind (arith, common_steps) in
    rw same (report_clear c.args.config.now c.args.symbol c.args.report.now c.requires (omega arith) (omega arith))
