-- Where the stream does not grow, nothing was worked.
use Rattle.std.proofs.Common.{◌≡◌, ◌++◌, ap}
use Rattle.std.proofs.lemmas.Result.{err_from_is_err_and}
use Rattle.fix_frames.specs.Reading.{reading_of}
use Rattle.member_gate.specs.Desks.{DeskView}
use Rattle.member_gate.proofs.Underway.{stopped_at_once}
use Rattle.member_gate.proofs.desk.Desk.work_piece.Goals as goal

pub returns-in_err-feed-clause-stopped : goal.returns-in_err-feed-clause-stopped
returns-in_err-feed-clause-stopped g c =
    let origin = c.args.origin in
    let desk = c.args.self.now in
    let session : c.self.inside.session ≡ desk.session = ap (λ (v : DeskView). v.session) c.self.view_is in
    let p = err_from_is_err_and c.from_residual.result c.from_residual.ensures.1 in
    rw (p.1, p.2, session, c.requires.none)
    (stopped_at_once g.F.Floor.at g.F.Floor.step_limit (g.F.Floor.mark c.args.floor.now) origin.config.now origin.member origin.feed origin.moment
    desk.session (reading_of (desk.unread ++ c.args.piece.now)).frames (c.args.floor.now, c.args.steps.now))
