use Rattle.std.proofs.Common.{◌≡◌, ℤ, List, refl, sym, subst, arith, w64, to_z, of_z, rules}
use Rattle.std.proofs.lemmas.List.{with_items_is}
use Rattle.std.specs.List.{AllZip}
use Rattle.member_gate.specs.Desks.{DeskView}
use Rattle.line_work.specs.LineWork.{work_of_moment}
use Rattle.line_work.specs.Standing.{StandsFor, WorkerView, IsDeskOf, worker_of}
use Rattle.line_work.proofs.Kept.{stands_ticked, weaker}
use Rattle.line_work.proofs.worker.LineWorker.tick.Goals as goal

pub returns-clause-stands : goal.returns-clause-stands
returns-clause-stands c =
    let e : to_z w64 (of_z w64 c.args.moment) ≡ c.args.moment = search rules in
    let same = with_items_is c.self.inside.desks c.tick_all.new.desks (omega arith) in
    weaker c.tick_all.result _ _ (λ all state s.
    let t = subst (λ (w : WorkerView). StandsFor w state) (sym c.self.view_is) s in
    let u = subst (λ (ds : List DeskView). AllZip IsDeskOf ds state.connections) (sym c.as_mut_slice.ensures.value) t.desks in
    subst (λ (ds : List DeskView). StandsFor (worker_of c.self.inside.config (to_z w64 (of_z w64 c.args.moment)) ds) (work_of_moment state c.args.moment).state)
    (sym same)
    (subst (λ (m : ℤ). StandsFor (worker_of c.self.inside.config (to_z w64 (of_z w64 c.args.moment)) c.tick_all.new.desks) (work_of_moment state m).state) e
    (stands_ticked c.self.inside.config c.self.inside.moment (to_z w64 (of_z w64 c.args.moment)) (to_z w64 (of_z w64 c.args.moment)) c.self.inside.desks.items
    c.tick_all.new.desks state refl t (all state.connections u)))) c.tick_all.ensures.desks
