use Rattle.source_feed.proofs.Links.{gave_none}
use Rattle.source_feed.proofs.serving.log_on.Goals as goal

pub returns-in-Err-clause-gave : goal.returns-in-Err-clause-gave
returns-in-Err-clause-gave g c = gave_none (g.K.Link.told c.args.link.now)
