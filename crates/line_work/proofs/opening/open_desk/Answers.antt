use Rattle.std.proofs.Common.{sym, ap, subst, get_or, slice_get, unwrap_or}
use Rattle.member_gate.specs.Desks.{DeskView}
use Rattle.line_work.specs.LineWork.{reconnected}
use Rattle.line_work.specs.Standing.{IsDeskOf}
use Rattle.line_work.specs.OneByOneLaws.{zip_at, zip_set, kept_step, read_twice}
use Rattle.line_work.proofs.DeskWork.{desk_connected}
use Rattle.line_work.proofs.opening.open_desk.Goals as goal

pub returns-clause-desk : goal.returns-clause-desk
returns-clause-desk c connections other h =
    let at = read_twice c.args.desks.now c.args.number c.index-desks-number.result c.index-desks-number.is in
    let x = zip_at IsDeskOf c.args.desks.now connections c.args.number _ other c.requires at h in
    zip_set IsDeskOf c.args.desks.now connections c.args.number c.open.new.self _
    (subst (λ (d : DeskView). IsDeskOf d (reconnected (unwrap_or (slice_get connections c.args.number) other))) (sym c.open.ensures)
    (desk_connected (get_or c.args.desks.now c.args.number c.index-desks-number.result) (unwrap_or (slice_get connections c.args.number) other) x)) h

pub returns-clause-numbers : goal.returns-clause-numbers
returns-clause-numbers c =
    let at = read_twice c.args.desks.now c.args.number c.index-desks-number.result c.index-desks-number.is in
    kept_step (λ (d : DeskView). d.member) c.args.desks.now c.args.number _ c.open.new.self at
    (ap (λ (d : DeskView). d.member) c.open.ensures)

pub returns-clause-cursors : goal.returns-clause-cursors
returns-clause-cursors c =
    let at = read_twice c.args.desks.now c.args.number c.index-desks-number.result c.index-desks-number.is in
    kept_step (λ (d : DeskView). d.cursors) c.args.desks.now c.args.number _ c.open.new.self at
    (ap (λ (d : DeskView). d.cursors) c.open.ensures)
