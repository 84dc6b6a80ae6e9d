use Rattle.std.proofs.Common.{◌≡◌, ◌<◌, length, ap, sym, ◌∙◌, arith, w64, to_z, of_z, rules}
use Rattle.member_gate.specs.Desks.{DeskView}
use Rattle.line_work.specs.OneByOneLaws.{all_desks, number_at, kept_step}
use Rattle.line_work.specs.Standing.{WorkerView}
use Rattle.line_work.proofs.Kept.{both_ok, pulled_one}
use Rattle.line_work.proofs.worker.LineWorker.pull_news.Goals as goal

pub index_mut-desk-requires : goal.index_mut-desk-requires
index_mut-desk-requires g c =
    let all = all_desks (λ (d : DeskView). d.member) 0 _ c.self.inside.desks.items c.self.invariant.1 in
    let count : length c.self.inside.config.members ≡ length c.args.self.now.config.members =
    ap (λ (w : WorkerView). length w.config.members) c.self.view_is in
    omega (arith, all, count, c.requires.member)

pub pull_desk-requires-clause-own : goal.pull_desk-requires-clause-own
pull_desk-requires-clause-own g c =
    let all = all_desks (λ (d : DeskView). d.member) 0 _ c.self.inside.desks.items c.self.invariant.1 in
    let count : length c.self.inside.config.members ≡ length c.args.self.now.config.members =
    ap (λ (w : WorkerView). length w.config.members) c.self.view_is in
    let l : c.args.member < length c.self.inside.desks.items = omega (arith, all, count, c.requires.member) in
    number_at (λ (d : DeskView). d.member) _ c.self.inside.desks.items c.args.member _ c.self.invariant.1 l c.index_mut-desk.ensures.value

pub invariant_of-self : goal.invariant_of-self
invariant_of-self g c = (
  c.self.invariant.0,
  kept_step (λ (d : DeskView). d.member) c.self.inside.desks.items c.args.member _ c.pull_desk.new.desk
      c.index_mut-desk.ensures.value c.pull_desk.ensures.member ∙ c.self.invariant.1,
)

pub returns-clause-pulled : goal.returns-clause-pulled
returns-clause-pulled g c =
    let all = all_desks (λ (d : DeskView). d.member) 0 _ c.self.inside.desks.items c.self.invariant.1 in
    let count : length c.self.inside.config.members ≡ length c.args.self.now.config.members =
    ap (λ (w : WorkerView). length w.config.members) c.self.view_is in
    let l : c.args.member < length c.self.inside.desks.items = omega (arith, all, count, c.requires.member) in
    let e : to_z w64 (of_z w64 c.self.inside.moment) ≡ c.self.inside.moment = search rules in
    let own = number_at (λ (d : DeskView). d.member) _ c.self.inside.desks.items c.args.member _ c.self.invariant.1 l c.index_mut-desk.ensures.value in
    both_ok c.pull_desk.result _ _ _ (λ pulled text. pulled_one c.args.self.now c.self.inside.config c.self.inside.moment _
    c.args.awaited.asked.now (λ symbol. (g.F.Floor.at c.pull_desk.new.floor symbol).reports) c.self.inside.desks.items c.args.member _ c.pull_desk.new.desk
    c.args.out.now.items c.pull_desk.new.out.items (sym c.self.view_is) e l c.index_mut-desk.ensures.value own pulled text)
    c.pull_desk.ensures.desk c.pull_desk.ensures.text
