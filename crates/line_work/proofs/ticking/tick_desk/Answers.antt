use Rattle.std.proofs.Common.{◌≡◌, ℤ, sym, subst, w64, to_z, of_z, rules}
use Rattle.member_gate.specs.Desks.{DeskView}
use Rattle.line_work.specs.LineWork.{ticked}
use Rattle.line_work.specs.Standing.{IsDeskOf}
use Rattle.line_work.proofs.DeskWork.{always, desk_ticked}
use Rattle.line_work.proofs.ticking.tick_desk.Goals as goal

pub returns-clause-desk : goal.returns-clause-desk
returns-clause-desk c =
    let e : to_z w64 (of_z w64 c.args.moment) ≡ c.args.moment = search rules in
    always c.push_frames.result _ (λ connection x.
    subst (λ (m : ℤ). IsDeskOf c.tick.new.self (ticked m connection)) e
    (subst (λ (d : DeskView). IsDeskOf d (ticked (to_z w64 (of_z w64 c.args.moment)) connection)) (sym c.in_ok-turn.ensures.session)
    (desk_ticked c.args.desk.now connection (to_z w64 (of_z w64 c.args.moment)) x)))
