use Rattle.std.proofs.Common.{◌++◌, codes}
use Rattle.audit_report.specs.Sections.{find_text, hint_text, part_anchor}
use Rattle.audit_report.proofs.Chaining.{joined}
use Rattle.audit_report.proofs.sections.push_find.Goals as goal

pub returns : goal.returns
unfolding find_text
returns c =
    let old = c.args.out.now.items in
    joined old (codes "<input class=\"find\" type=\"search\" data-of=\"" ++ part_anchor c.args.part c.args.symbol.now) (hint_text c.args.part) (joined old (codes "<input class=\"find\" type=\"search\" data-of=\"") (part_anchor c.args.part c.args.symbol.now) (c.in_ok-push.ensures) (c.in_ok-push_part_anchor.ensures)) (c.in_ok-push_hint.ensures)
