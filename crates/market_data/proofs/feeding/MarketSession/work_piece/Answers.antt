-- The frames that a piece completes are those of the stream behind it.
use Rattle.std.proofs.Common.{◌++◌, ap, ◌∙◌}
use Rattle.market_data.specs.Feeding.{Feeding, feeding_of}
use Rattle.market_data.proofs.FeedingSteps.{stands_fed, map_if_ok}
use Rattle.market_data.proofs.feeding.MarketSession.work_piece.Goals as goal

pub returns : goal.returns
returns c = record {
  adds = map_if_ok c.work_frames.result (λ ended adds source bytes stands.
      let view = c.self.view_is in
      adds source bytes c.args.piece.now
      (stands_fed c.args.config.now source bytes c.args.piece.now c.args.self.now
      (feeding_of c.self.inside.session c.feed.new.self.kept c.self.inside.last) stands
      (ap (λ (v : Feeding). v.session) view)
      (c.in_ok-feed.ensures.kept ∙ ap (λ (v : Feeding). v.unread ++ c.args.piece.now) view)
      (ap (λ (v : Feeding). v.last) view))) c.work_frames.ensures.adds;
}
