use Rattle.std.proofs.Common.{ℕ, List, ◌++◌, ◌∙◌, ap}
use Rattle.audit_report.proofs.Bucketing.{life_there}
use Rattle.audit_report.proofs.lives.push_life.Goals as goal

pub push_lines-requires : goal.push_lines-requires
push_lines-requires c = c.requires.each

pub returns : goal.returns
returns c =
    let told = c.args.told in
    c.in_ok-push_lines.ensures
    ∙ ap (λ (t : List ℕ). c.args.out.now.items ++ t)
    (life_there told.config.now told.symbol told.journal.now told.reports.now c.args.first c.args.places.now c.requires)
