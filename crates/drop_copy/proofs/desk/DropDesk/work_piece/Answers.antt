-- Where the stream does not grow, nothing was worked.
use Rattle.std.proofs.Common.{◌≡◌, ◌++◌, ap}
use Rattle.std.proofs.lemmas.Result.{err_from_is_err_and}
use Rattle.fix_frames.specs.Reading.{reading_of}
use Rattle.drop_copy.specs.Desks.{DropView}
use Rattle.drop_copy.proofs.Frames.{stopped_at_once}
use Rattle.drop_copy.proofs.desk.DropDesk.work_piece.Goals as goal

pub returns-in_err-feed-clause-gave_up : goal.returns-in_err-feed-clause-gave_up
returns-in_err-feed-clause-gave_up c =
    let desk = c.args.self.now in
    let session : c.self.inside.session ≡ desk.session = ap (λ (v : DropView). v.session) c.self.view_is in
    let p = err_from_is_err_and c.from_residual.result c.from_residual.ensures.1 in
    rw (p.1, session) (stopped_at_once c.args.moment desk.session (reading_of (desk.unread ++ c.args.piece.now)).frames)
