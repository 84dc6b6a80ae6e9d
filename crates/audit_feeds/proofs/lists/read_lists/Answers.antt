use Rattle.std.proofs.Common.{map}
use Rattle.feeds_core.specs.FeedRuns.{named_texts}
use Rattle.audit_feeds.proofs.Refusals.{always_stops}
use Rattle.audit_feeds.proofs.lists.read_lists.Goals as goal

pub returns-in-Err-clause-why : goal.returns-in-Err-clause-why
returns-in-Err-clause-why g c =
    always_stops (g.H.Shelf.told c.args.shelf.now)
    (λ files. named_texts files (record { config = c.args.config.now; feeds = map (λ feed. feed.now) c.args.feeds.now })) c.status_of.result c.status_of.ensures.why
