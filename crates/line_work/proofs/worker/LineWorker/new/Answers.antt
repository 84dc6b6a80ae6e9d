use Rattle.std.proofs.Common.{◌≡◌, ℤ, List, sym, subst, w64, to_z, of_z, rules}
use Rattle.member_gate.specs.Desks.{DeskView}
use Rattle.line_work.specs.FeedState.{before_lines}
use Rattle.line_work.specs.Standing.{AreDesks, StandsFor, worker_of}
use Rattle.line_work.proofs.Fresh.{stands_first, fresh_numbers}
use Rattle.line_work.proofs.worker.LineWorker.new.Goals as goal

pub invariant_of-result : goal.invariant_of-result
invariant_of-result c =
    (c.requires, subst (λ (ds : List DeskView). AreDesks c.args.config ds) (sym c.in_ok-desks.ensures.desks) (fresh_numbers c.args.config))

pub returns-clause-stands : goal.returns-clause-stands
returns-clause-stands c =
    let e : to_z w64 (of_z w64 c.args.config.begin) ≡ c.args.config.begin = search rules in
    subst (λ (m : ℤ). StandsFor (worker_of c.args.config m c.in_ok-desks.desks.items) (before_lines c.args.config)) (sym e)
    (subst (λ (ds : List DeskView). StandsFor (worker_of c.args.config c.args.config.begin ds) (before_lines c.args.config))
    (sym c.in_ok-desks.ensures.desks) (stands_first c.args.config))
