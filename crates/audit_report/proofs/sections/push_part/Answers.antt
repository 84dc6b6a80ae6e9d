use Rattle.std.proofs.Common.{[], ◌∷◌, ◌++◌, codes}
use Rattle.audit_report.specs.Sections.{cut_text, part_frame, summary_text}
use Rattle.audit_report.specs.Gathering.{body_held}
use Rattle.audit_report.proofs.Chaining.{joined}
use Rattle.audit_report.proofs.sections.push_part.Goals as goal

pub returns : goal.returns
unfolding part_frame
returns c =
    let old = c.args.out.now.items in
    joined old (summary_text c.args.part c.args.chunks.now.all ++ cut_text c.args.part c.args.chunks.now.most c.args.chunks.now.all ++ body_held c.args.part c.args.symbol.now c.args.chunks.now ++ codes "</div></details>") (10 ∷ []) (joined old (summary_text c.args.part c.args.chunks.now.all ++ cut_text c.args.part c.args.chunks.now.most c.args.chunks.now.all ++ body_held c.args.part c.args.symbol.now c.args.chunks.now) (codes "</div></details>") (joined old (summary_text c.args.part c.args.chunks.now.all ++ cut_text c.args.part c.args.chunks.now.most c.args.chunks.now.all) (body_held c.args.part c.args.symbol.now c.args.chunks.now) (joined old (summary_text c.args.part c.args.chunks.now.all) (cut_text c.args.part c.args.chunks.now.most c.args.chunks.now.all) (c.in_ok-push_summary.ensures) (c.in_ok-push_cut.ensures)) (c.in_ok-push_held.ensures)) (c.in_ok-push.ensures)) (c.in_ok-push-2.ensures)
