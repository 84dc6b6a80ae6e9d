-- The frames that a piece completes are those of the stream after it.
use Rattle.std.proofs.Common.{◌++◌, ap, ◌∙◌}
use Rattle.source_session.specs.Hearing.{Hearing}
use Rattle.source_session.proofs.Steps.{fed, map_on_ok}
use Rattle.source_session.proofs.session.SourceSession.take.Goals as goal

pub returns-clause-adds : goal.returns-clause-adds
returns-clause-adds c = map_on_ok c.work_frames.result (λ adds bytes stands.
    let view = c.self.view_is in
    adds bytes c.args.piece.now
    (fed c.args.config.now c.self.inside.listener.names bytes c.args.piece.now c.args.self.now
    c.self.inside.listener.state c.feed.new.self.kept (ap (λ (v : Hearing). v.names) view) stands
    (ap (λ (v : Hearing). v.state) view)
    (c.in_ok-feed.ensures.kept ∙ ap (λ (v : Hearing). v.unread ++ c.args.piece.now) view))) c.work_frames.ensures.adds
