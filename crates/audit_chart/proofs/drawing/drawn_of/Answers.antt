use Rattle.std.proofs.Common.{◌≡◌, Ok, ◌∙◌, ap}
use Rattle.audit_core.specs.Audited.{IsListing}
use Rattle.audit_core.specs.declared.verdict.Verdict.{Verdict}
use Rattle.audit_core.specs.declared.verdict.Verdict.TheVariants.{Differs}
use Rattle.audit_core.proofs.Erring.{files_map, listing_of}
use Rattle.audit_chart.proofs.Listed.{listed}
use Rattle.audit_chart.proofs.drawing.drawn_of.Goals as goal

pub returns-in-Same-clause-picture : goal.returns-in-Same-clause-picture
returns-in-Same-clause-picture g c =
    let told = g.H.Shelf.told c.args.shelf.now in
    listed told c.args.listing.now c.args.config.now c.follow.result _ c.in_ok-follow.was c.follow.ensures.missing
    (files_map told c.args.listing.now _ (IsListing c.args.config.now) (λ text lists. listing_of _ c.args.config.now text _ _ lists)
    (c.follow.ensures.same (let e = c.in_ok-follow.was in cc)))

pub returns-clause-differs : goal.returns-clause-differs
returns-clause-differs g c = λ line expected is.
    let verdict : c.in_ok-follow.field-0 ≡ Differs line expected = cc in
    let found : c.follow.result ≡ Ok (Differs line expected) = c.in_ok-follow.was ∙ ap (λ (v : Verdict). Ok v) verdict in
    c.follow.ensures.differs line expected found
