use Rattle.std.proofs.Common.{◌∙◌}
use Rattle.audit_report.specs.declared.parts.Part.TheVariants.{Refusals}
use Rattle.audit_report.specs.Refusals.{refusal_rows}
use Rattle.audit_report.specs.Parts.{box}
use Rattle.audit_report.proofs.sections.push_refusals.Goals as goal

pub returns : goal.returns
returns c =
    c.in_ok-push_part_of.ensures (refusal_rows c.args.config.now c.args.reports.now)
    (c.in_ok-add_refusals.ensures.rows _ (c.new-refusals.ensures.none (box Refusals))) (c.in_ok-add_refusals.ensures.most ∙ c.new-refusals.ensures.most ∙ c.share_of.ensures)
