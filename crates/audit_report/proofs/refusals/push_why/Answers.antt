use Rattle.std.proofs.Common.{ℕ, List, [], ◌∷◌, ◌++◌, ◌∙◌, codes, decimal, ap}
use Rattle.venue_words.specs.Rules.{rule_number, rule_text}
use Rattle.audit_html.specs.Html.{html_text}
use Rattle.audit_report.specs.Refusals.{why_cell}
use Rattle.audit_report.proofs.Chaining.{as_text, joined}
use Rattle.audit_report.proofs.refusals.push_why.Goals as goal

pub returns : goal.returns
unfolding why_cell
returns c =
    let old = c.args.out.now.items in
    joined old (codes "<td class=\"words\">" ++ html_text (rule_text c.args.rule) ++ codes " <span class=\"soft\">(rule " ++ decimal (rule_number c.args.rule) ++ codes ")</span>") (10 ∷ []) (joined old (codes "<td class=\"words\">" ++ html_text (rule_text c.args.rule) ++ codes " <span class=\"soft\">(rule " ++ decimal (rule_number c.args.rule)) (codes ")</span>") (joined old (codes "<td class=\"words\">" ++ html_text (rule_text c.args.rule) ++ codes " <span class=\"soft\">(rule ") (decimal (rule_number c.args.rule)) (joined old (codes "<td class=\"words\">" ++ html_text (rule_text c.args.rule)) (codes " <span class=\"soft\">(rule ") (joined old (codes "<td class=\"words\">") (html_text (rule_text c.args.rule)) (c.in_ok-push.ensures) (as_text (c.push.new.out.items) (c.in_ok-push_html.ensures) (ap (λ (t : List ℕ). html_text t) (c.as_bytes.ensures.value ∙ c.text.ensures)))) (c.in_ok-push-2.ensures)) (as_text (c.push-2.new.out.items) (c.in_ok-push_number.ensures) (ap (λ (n : ℕ). decimal n) (c.from.ensures ∙ c.number.ensures)))) (c.in_ok-push-3.ensures)) (c.in_ok-push-4.ensures)
