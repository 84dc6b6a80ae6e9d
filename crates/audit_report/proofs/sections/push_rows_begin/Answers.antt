use Rattle.std.proofs.Common.{◌++◌, codes}
use Rattle.audit_report.specs.Parts.{class}
use Rattle.audit_report.specs.Sections.{part_anchor, rows_begin}
use Rattle.audit_report.proofs.Chaining.{as_text, joined}
use Rattle.audit_report.proofs.sections.push_rows_begin.Goals as goal

pub returns : goal.returns
unfolding rows_begin
returns c =
    let old = c.args.out.now.items in
    joined old (codes "<div class=\"" ++ class c.args.part ++ codes "\" id=\"" ++ part_anchor c.args.part c.args.symbol.now) (codes "\">") (joined old (codes "<div class=\"" ++ class c.args.part ++ codes "\" id=\"") (part_anchor c.args.part c.args.symbol.now) (joined old (codes "<div class=\"" ++ class c.args.part) (codes "\" id=\"") (joined old (codes "<div class=\"") (class c.args.part) (c.in_ok-push.ensures) (as_text (c.push.new.out.items) (c.in_ok-push-2.ensures) (c.class.ensures))) (c.in_ok-push-3.ensures)) (c.in_ok-push_part_anchor.ensures)) (c.in_ok-push-4.ensures)
