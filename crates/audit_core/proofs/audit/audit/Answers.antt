-- The first line that differs is that of every config that the config's file says.
use Rattle.std.proofs.Common.{Option, IfSome, refl, subst}
use Rattle.io_edge.specs.Files.{Files}
use Rattle.audit_core.specs.Audited.{IsListing, OfText}
use Rattle.audit_core.specs.Differing.{DiffersAt}
use Rattle.audit_core.proofs.Filing.{config_read, config_refused, for_config}
use Rattle.audit_core.proofs.audit.audit.Goals as goal

pub returns-in-Ok-verify-clause-differs : goal.returns-in-Ok-verify-clause-differs
returns-in-Ok-verify-clause-differs g c = λ line expected is.
    for_config (g.H.Shelf.told c.args.shelf.now) c.args.files.config.now c.in-Ok.file
    (λ all config. OfText all c.args.files.listing.now (λ text. DiffersAt (IsListing config) text line expected))
    c.in-Ok.ensures.read
    (subst (λ (told : Option Files). IfSome told (λ all. OfText all c.args.files.listing.now
    (λ text. DiffersAt (IsListing c.in-Ok.file.config) text line expected))) c.in-Ok.ensures.told
    (c.in-Ok-verify.ensures.differs line expected (let e = is in cc)))

pub returns-in-Err-clause-read : goal.returns-in-Err-clause-read
returns-in-Err-clause-read g c =
    config_refused (g.H.Shelf.told c.args.shelf.now) c.args.files.config.now c.in-Err.fault _ refl

pub returns-then-not-has_word_names-clause-read : goal.returns-then-not-has_word_names-clause-read
returns-then-not-has_word_names-clause-read g c =
    config_read (g.H.Shelf.told c.args.shelf.now) c.args.files.config.now c.read_config.result c.in-Ok.file _ c.in-Ok.is c.read_config.ensures.missing
    c.in-Ok.ensures.read

pub returns-in-Ok-verify-clause-read : goal.returns-in-Ok-verify-clause-read
returns-in-Ok-verify-clause-read g c =
    config_read (g.H.Shelf.told c.args.shelf.now) c.args.files.config.now c.read_config.result c.in-Ok.file _ c.in-Ok.is c.read_config.ensures.missing
    c.in-Ok.ensures.read

pub returns-clause-read : goal.returns-clause-read
returns-clause-read g c =
    config_read (g.H.Shelf.told c.args.shelf.now) c.args.files.config.now c.read_config.result c.in-Ok.file _ c.in-Ok.is c.read_config.ensures.missing
    c.in-Ok.ensures.read
