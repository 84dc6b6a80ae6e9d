use Rattle.std.proofs.Common.{◌++◌, codes}
use Rattle.audit_report.specs.Parts.{hint}
use Rattle.audit_report.specs.Sections.{hint_text}
use Rattle.audit_report.proofs.Chaining.{as_text, joined}
use Rattle.audit_report.proofs.sections.push_hint.Goals as goal

pub returns : goal.returns
unfolding hint_text
returns c =
    let old = c.args.out.now.items in
    joined old (codes "\" placeholder=\"" ++ hint c.args.part ++ codes "\" aria-label=\"" ++ hint c.args.part) (codes "\" hidden>") (joined old (codes "\" placeholder=\"" ++ hint c.args.part ++ codes "\" aria-label=\"") (hint c.args.part) (joined old (codes "\" placeholder=\"" ++ hint c.args.part) (codes "\" aria-label=\"") (joined old (codes "\" placeholder=\"") (hint c.args.part) (c.in_ok-push.ensures) (as_text (c.push.new.out.items) (c.in_ok-push-2.ensures) (c.hint.ensures))) (c.in_ok-push-3.ensures)) (as_text (c.push-3.new.out.items) (c.in_ok-push-4.ensures) (c.hint-2.ensures))) (c.in_ok-push-5.ensures)
