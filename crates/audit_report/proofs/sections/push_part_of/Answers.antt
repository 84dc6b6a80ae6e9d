use Rattle.audit_report.proofs.Parting.{part_held}
use Rattle.audit_report.proofs.sections.push_part_of.Goals as goal

pub returns : goal.returns
returns c = λ rows holds most.
    part_held c.args.part c.args.config.now c.args.symbol c.symbol_name.result.now rows c.args.chunks.now c.args.out.now.items c.push_part.new.out.items holds most
    c.symbol_name.ensures c.in_ok-push_part.ensures
