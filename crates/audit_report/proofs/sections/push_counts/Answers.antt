use Rattle.std.proofs.Common.{ℕ, ◌++◌, codes, ap}
use Rattle.audit_html.specs.Numbers.{count_text}
use Rattle.audit_report.specs.Sections.{counts_words}
use Rattle.audit_report.proofs.Chaining.{as_text, joined}
use Rattle.audit_report.proofs.sections.push_counts.Goals as goal

pub returns : goal.returns
unfolding counts_words
returns c =
    let old = c.args.out.now.items in
    joined old (codes "<p>The first " ++ count_text c.args.most ++ codes " of ") (count_text c.args.all) (joined old (codes "<p>The first " ++ count_text c.args.most) (codes " of ") (joined old (codes "<p>The first ") (count_text c.args.most) (c.in_ok-push.ensures) (as_text (c.push.new.out.items) (c.in_ok-push_count.ensures) (ap (λ (n : ℕ). count_text n) c.from.ensures))) (c.in_ok-push-2.ensures)) (c.in_ok-push_count-2.ensures)
