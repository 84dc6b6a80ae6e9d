-- A put gives nothing.
use Rattle.source_feed.proofs.Links.{gave_put}
use Rattle.source_feed.proofs.turn.put_replies.Goals as goal

pub returns-in-Ok-clause-gave : goal.returns-in-Ok-clause-gave
returns-in-Ok-clause-gave g c = gave_put (g.K.Link.told c.args.link.now) (g.K.Link.told c.put.new.self) c.put.result _ c.put.ensures.bytes

pub returns-in-Err-clause-gave : goal.returns-in-Err-clause-gave
returns-in-Err-clause-gave g c = gave_put (g.K.Link.told c.args.link.now) (g.K.Link.told c.put.new.self) c.put.result _ c.put.ensures.bytes
