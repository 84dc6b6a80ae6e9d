-- The last one stood behind the others.
use Rattle.std.proofs.Common.{ℕ, ◌∷◌, [], map, sym, ap, ◌∙◌}
use Rattle.std.proofs.lemmas.List.{map-append}
use Rattle.venue_core.specs.declared.seated.Seated.{Seated}
use Rattle.venue_server.specs.declared.workers.Job.{Job}
use Rattle.venue_server.proofs.splitting.jobs_and_last.Goals as goal

pub returns-in-Some-clause-numbers : goal.returns-in-Some-clause-numbers
returns-in-Some-clause-numbers g c =
    let NumberOf : Job (Seated g.row.R.Denot g.row.V.Denot) → ℕ = λ job. job.number in
    sym (map-append NumberOf c.pop.new.self.items (c.in-Some.last ∷ [])) ∙ ap (map NumberOf) (sym c.in-Some.ensures.items)
    ∙ c.in_ok-jobs.ensures.numbers

pub returns-in-Some-clause-inboxes : goal.returns-in-Some-clause-inboxes
returns-in-Some-clause-inboxes g c =
    let InboxOf = λ (job : Job (Seated g.row.R.Denot g.row.V.Denot)). job.inbox in
    sym (map-append InboxOf c.pop.new.self.items (c.in-Some.last ∷ [])) ∙ ap (map InboxOf) (sym c.in-Some.ensures.items)
    ∙ c.in_ok-jobs.ensures.inboxes
