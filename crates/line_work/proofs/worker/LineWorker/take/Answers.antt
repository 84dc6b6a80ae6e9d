use Rattle.std.proofs.Common.{◌≡◌, ◌<◌, map, length, ap, sym, ◌∙◌, arith, w64, to_z, of_z, rules}
use Rattle.member_gate.specs.Desks.{DeskView}
use Rattle.line_work.specs.OneByOneLaws.{all_desks, number_at, kept_step}
use Rattle.line_work.specs.Standing.{WorkerView}
use Rattle.line_work.proofs.Kept.{weaker, weaker_err, stands_taken, text_taken, took_taken, stopped_taken}
use Rattle.line_work.proofs.worker.LineWorker.take.Goals as goal

pub index_mut-desk-requires : goal.index_mut-desk-requires
index_mut-desk-requires g c =
    let all = all_desks (λ (d : DeskView). d.member) 0 _ c.self.inside.desks.items c.self.invariant.1 in
    let count : length c.self.inside.config.members ≡ length c.args.self.now.config.members =
    ap (λ (w : WorkerView). length w.config.members) c.self.view_is in
    omega (arith, all, count, c.requires.member)

pub take_piece-requires-clause-own : goal.take_piece-requires-clause-own
take_piece-requires-clause-own g c =
    let all = all_desks (λ (d : DeskView). d.member) 0 _ c.self.inside.desks.items c.self.invariant.1 in
    let count : length c.self.inside.config.members ≡ length c.args.self.now.config.members =
    ap (λ (w : WorkerView). length w.config.members) c.self.view_is in
    let l : c.args.member < length c.self.inside.desks.items = omega (arith, all, count, c.requires.member) in
    number_at (λ (d : DeskView). d.member) _ c.self.inside.desks.items c.args.member _ c.self.invariant.1 l c.index_mut-desk.ensures.value

pub invariant_of-self : goal.invariant_of-self
invariant_of-self g c = (
  c.self.invariant.0,
  kept_step (λ (d : DeskView). d.member) c.self.inside.desks.items c.args.member _ c.take_piece.new.desk
      c.index_mut-desk.ensures.value c.take_piece.ensures.member ∙ c.self.invariant.1,
)

pub returns-clause-cursors : goal.returns-clause-cursors
returns-clause-cursors g c =
    kept_step (λ (d : DeskView). d.cursors) c.self.inside.desks.items c.args.member _ c.take_piece.new.desk
    c.index_mut-desk.ensures.value c.take_piece.ensures.cursors
    ∙ ap (λ (w : WorkerView). map (λ (d : DeskView). d.cursors) w.desks) c.self.view_is

pub returns-clause-stands : goal.returns-clause-stands
returns-clause-stands g c =
    let all = all_desks (λ (d : DeskView). d.member) 0 _ c.self.inside.desks.items c.self.invariant.1 in
    let count : length c.self.inside.config.members ≡ length c.args.self.now.config.members =
    ap (λ (w : WorkerView). length w.config.members) c.self.view_is in
    let l : c.args.member < length c.self.inside.desks.items = omega (arith, all, count, c.requires.member) in
    let e : to_z w64 (of_z w64 c.self.inside.moment) ≡ c.self.inside.moment = search rules in
    weaker c.take_piece.result _ _ (λ taken state s. stands_taken c.args.self.now c.self.inside.config c.self.inside.moment _
    c.self.inside.desks.items c.args.member _ c.take_piece.new.desk c.args.piece.now state (sym c.self.view_is) e l
    c.index_mut-desk.ensures.value s taken) c.take_piece.ensures.desk

pub returns-clause-text : goal.returns-clause-text
returns-clause-text g c =
    let all = all_desks (λ (d : DeskView). d.member) 0 _ c.self.inside.desks.items c.self.invariant.1 in
    let count : length c.self.inside.config.members ≡ length c.args.self.now.config.members =
    ap (λ (w : WorkerView). length w.config.members) c.self.view_is in
    let l : c.args.member < length c.self.inside.desks.items = omega (arith, all, count, c.requires.member) in
    let e : to_z w64 (of_z w64 c.self.inside.moment) ≡ c.self.inside.moment = search rules in
    weaker c.take_piece.result _ _ (λ taken state s. text_taken c.args.self.now c.self.inside.config c.self.inside.moment _
    c.self.inside.desks.items c.args.member _ c.args.piece.now c.args.out.now.items c.take_piece.new.out.items state (sym c.self.view_is) e l
    c.index_mut-desk.ensures.value s taken) c.take_piece.ensures.text

pub returns-clause-took : goal.returns-clause-took
returns-clause-took g c =
    let all = all_desks (λ (d : DeskView). d.member) 0 _ c.self.inside.desks.items c.self.invariant.1 in
    let count : length c.self.inside.config.members ≡ length c.args.self.now.config.members =
    ap (λ (w : WorkerView). length w.config.members) c.self.view_is in
    let l : c.args.member < length c.self.inside.desks.items = omega (arith, all, count, c.requires.member) in
    let e : to_z w64 (of_z w64 c.self.inside.moment) ≡ c.self.inside.moment = search rules in
    weaker c.take_piece.result _ _ (λ taken state s. took_taken g.F.Floor.at g.F.Floor.step_limit (g.F.Floor.mark c.args.floor.now) c.args.feed
    c.args.self.now c.self.inside.config c.self.inside.moment _ c.self.inside.desks.items c.args.member _ c.args.piece.now
    (c.args.floor.now, c.args.steps.now) (c.take_piece.new.floor, c.take_piece.new.steps) state (sym c.self.view_is) e l
    c.index_mut-desk.ensures.value s taken) c.take_piece.ensures.took

pub returns-clause-stopped : goal.returns-clause-stopped
returns-clause-stopped g c =
    let all = all_desks (λ (d : DeskView). d.member) 0 _ c.self.inside.desks.items c.self.invariant.1 in
    let count : length c.self.inside.config.members ≡ length c.args.self.now.config.members =
    ap (λ (w : WorkerView). length w.config.members) c.self.view_is in
    let l : c.args.member < length c.self.inside.desks.items = omega (arith, all, count, c.requires.member) in
    let e : to_z w64 (of_z w64 c.self.inside.moment) ≡ c.self.inside.moment = search rules in
    weaker_err c.take_piece.result _ _ (λ refusal taken state s. stopped_taken g.F.Floor.at g.F.Floor.step_limit (g.F.Floor.mark c.args.floor.now) c.args.feed
    c.args.self.now c.self.inside.config c.self.inside.moment _ c.self.inside.desks.items c.args.member _ c.args.piece.now refusal
    (c.args.floor.now, c.args.steps.now) (c.take_piece.new.floor, c.take_piece.new.steps) state (sym c.self.view_is) e l
    c.index_mut-desk.ensures.value s taken) c.take_piece.ensures.stopped
