use Rattle.audit_feeds.proofs.Refusals.{cause_is, differs_is, memory_is}
use Rattle.audit_feeds.proofs.telling.tell_departures.Goals as goal

pub returns-in-Ok-tabulate-clause-differs : goal.returns-in-Ok-tabulate-clause-differs
returns-in-Ok-tabulate-clause-differs g c =
    differs_is _ c.tabulate.result c.in-Ok-tabulate.verdict c.found_of.result c.in-Ok-tabulate.is c.found_of.ensures.verdict c.tabulate.ensures.differs

pub returns-in-Err-clause-why : goal.returns-in-Err-clause-why
returns-in-Err-clause-why g c =
    memory_is (g.H.Shelf.told c.args.shelf.now) c.args.files.config.now c.args.files.listing.now c.in-Err.refusal c.refusal_in_memory.result c.refusal_in_memory.ensures.same
    (cause_is (g.H.Shelf.told c.args.shelf.now) c.args.files.config.now c.args.files.listing.now c.tabulate.result c.in-Err.refusal c.in-Err.is
    c.tabulate.ensures.config c.tabulate.ensures.split c.tabulate.ensures.long c.tabulate.ensures.large)
