use Rattle.std.proofs.Common.{◌++◌, codes}
use Rattle.audit_report.specs.Parts.{how, many}
use Rattle.audit_report.specs.Sections.{counts_words, cut_words}
use Rattle.audit_report.proofs.Chaining.{as_text, joined}
use Rattle.audit_report.proofs.sections.push_cut_words.Goals as goal

pub returns : goal.returns
unfolding cut_words
returns c =
    let old = c.args.out.now.items in
    joined old (counts_words c.args.most c.args.all ++ codes " " ++ many c.args.part ++ codes " are here. All of them: <code>" ++ how c.args.part) (codes "</code>.</p>") (joined old (counts_words c.args.most c.args.all ++ codes " " ++ many c.args.part ++ codes " are here. All of them: <code>") (how c.args.part) (joined old (counts_words c.args.most c.args.all ++ codes " " ++ many c.args.part) (codes " are here. All of them: <code>") (joined old (counts_words c.args.most c.args.all ++ codes " ") (many c.args.part) (joined old (counts_words c.args.most c.args.all) (codes " ") (c.in_ok-push_counts.ensures) (c.in_ok-push.ensures)) (as_text (c.push.new.out.items) (c.in_ok-push-2.ensures) (c.many.ensures))) (c.in_ok-push-3.ensures)) (as_text (c.push-3.new.out.items) (c.in_ok-push-4.ensures) (c.how.ensures))) (c.in_ok-push-5.ensures)
