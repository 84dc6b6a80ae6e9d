use Rattle.std.proofs.Common.{◌∙◌, ap, arith}
use Rattle.audit_html.specs.declared.chunks.Chunks.{Chunks}
use Rattle.audit_html.proofs.Boxing.{added_held}
use Rattle.audit_html.proofs.chunks.Chunks.add.Goals as goal

pub returns : goal.returns
returns c = λ box begins ends.
    let counted = c.in_ok-count.ensures in
    added_held box c.args.row.now c.args.self.now c.count.new.self c.push_opening.new.out.items (omega arith) (ap (λ (chunks : Chunks). chunks.most) counted)
    (c.in_ok-push_opening.ensures box begins ends) (ap (λ (chunks : Chunks). chunks.text.items) counted ∙ c.in_ok-push.ensures)
    (ap (λ (chunks : Chunks). chunks.shown) counted) (ap (λ (chunks : Chunks). chunks.all) counted)
