use Rattle.audit_html.proofs.Boxing.{added_full}
use Rattle.audit_html.proofs.chunks.Chunks.skip.Goals as goal

pub returns : goal.returns
returns c = λ box row. added_full box row c.args.self.now c.count.new.self c.requires c.in_ok-count.ensures
