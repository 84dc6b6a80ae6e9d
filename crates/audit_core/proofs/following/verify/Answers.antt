use Rattle.audit_core.specs.Audited.{IsListing}
use Rattle.audit_core.proofs.Erring.{files_map, listing_of}
use Rattle.audit_core.proofs.following.verify.Goals as goal

pub returns-clause-same : goal.returns-clause-same
returns-clause-same g c = λ is.
    files_map (g.H.Shelf.told c.args.shelf.now) c.args.name.now _ (IsListing c.args.config.now)
    (λ text lists. listing_of _ c.args.config.now text _ _ lists) (c.follow.ensures.same is)
