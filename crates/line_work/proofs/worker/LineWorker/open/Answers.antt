use Rattle.std.proofs.Common.{◌≡◌, length, ap, arith}
use Rattle.member_gate.specs.Desks.{DeskView}
use Rattle.line_work.specs.OneByOneLaws.{all_desks}
use Rattle.line_work.specs.Standing.{WorkerView}
use Rattle.line_work.proofs.worker.LineWorker.open.Goals as goal

pub open_desk-requires : goal.open_desk-requires
open_desk-requires c =
    let all = all_desks (λ (d : DeskView). d.member) 0 _ c.self.inside.desks.items c.self.invariant.1 in
    let count : length c.self.inside.config.members ≡ length c.args.self.now.config.members =
    ap (λ (w : WorkerView). length w.config.members) c.self.view_is in
    let here : length c.as_mut_slice.result.now ≡ length c.self.inside.desks.items = ap length c.as_mut_slice.ensures.value in
    omega (arith, all, count, here, c.requires)
