use Rattle.audit_report.specs.Parts.{box}
use Rattle.audit_report.proofs.parts.add_row.Goals as goal

pub returns : goal.returns
returns c = c.in_ok-add.ensures (box c.args.part) c.tags.ensures.begin c.tags.ensures.end
