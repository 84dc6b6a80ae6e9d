-- Behind the seats of the connections, those of the quotes and of the drop session make all parts.
use Rattle.std.proofs.Common.{◌+◌, ◌-◌, ◌++◌, ◌∷◌, [], map, ap, ◌∙◌, append_assoc}
use Rattle.turn_gate.specs.Rule.{whole}
use Rattle.venue_core.specs.declared.seated.Seated.{Seated}
use Rattle.venue_server.specs.declared.workers.Finished.{Finished}
use Rattle.venue_server.specs.declared.workers.Outcome.{Outcome}
use Rattle.venue_server.specs.Outcomes.{first_wrong}
use Rattle.venue_server.proofs.Outcomes.{wrong_next}
use Rattle.venue_server.proofs.joining.join_all.Goals as goal

pub returns-clause-seats : goal.returns-clause-seats
returns-clause-seats g c = record {
  are = c.join_one-copied.ensures.seats;
  have = c.join_one-copied.ensures.parts ((whole - 2) + 1)
      (c.join_one-quoted.ensures.parts (whole - 2) c.join_links-served.ensures.seats.have);
}

pub returns-clause-outcome : goal.returns-clause-outcome
returns-clause-outcome g c =
    let links = map (λ (one : Finished (Seated g.row.R.Denot g.row.V.Denot)). one.outcome) c.args.links.items in
    let quoted = c.join_one-quoted.result in
    let copied = c.join_one-copied.result in
    let first = wrong_next links c.join_links-served.result quoted c.or.result c.join_links-served.ensures.outcome c.or.ensures in
    wrong_next (links ++ quoted ∷ []) c.or.result copied c.or-2.result first c.or-2.ensures
    ∙ ap first_wrong (append_assoc links (quoted ∷ []) (copied ∷ []))
    ∙ ap (λ (o : Outcome). first_wrong (links ++ o ∷ copied ∷ [])) c.join_one-quoted.ensures.outcome
    ∙ ap (λ (o : Outcome). first_wrong (links ++ c.args.quoted.outcome ∷ o ∷ [])) c.join_one-copied.ensures.outcome
