-- The config that was read is the one that its file says.
use Rattle.std.proofs.Common.{Option, IfSome, refl, subst}
use Rattle.io_edge.specs.Files.{Files}
use Rattle.audit_core.specs.Audited.{HasListing, IsListing, OfText}
use Rattle.audit_core.specs.Differing.{DiffersAt}
use Rattle.audit_core.proofs.Filing.{config_read, config_refused, config_there, for_config}
use Rattle.audit_chart.specs.Drawing.{IsListed}
use Rattle.audit_chart.proofs.Listed.{day_of, picture_map}
use Rattle.audit_chart.proofs.drawing.draw_day.Goals as goal

pub returns-in-Ok-drawn_of-clause-picture : goal.returns-in-Ok-drawn_of-clause-picture
returns-in-Ok-drawn_of-clause-picture g c =
    let told = g.H.Shelf.told c.args.shelf.now in
    let config = c.args.files.config.now in
    let listing = c.args.files.listing.now in
    let there = config_there told config c.read_config.result c.in-Ok.file c.in-Ok.is c.read_config.ensures.missing in
    picture_map c.in-Ok-drawn_of.drawn (IfSome (g.H.Shelf.told c.read_config.new.shelf) (λ files. IsListed files listing c.in-Ok.file.config))
    (IfSome told (λ files. HasListing files config listing))
    (λ lists. day_of told config listing c.in-Ok.file there c.in-Ok.ensures.read
    (subst (λ (t : Option Files). IfSome t (λ files. IsListed files listing c.in-Ok.file.config)) c.in-Ok.ensures.told lists))
    c.in-Ok-drawn_of.ensures.picture

pub returns-in-Ok-drawn_of-clause-differs : goal.returns-in-Ok-drawn_of-clause-differs
returns-in-Ok-drawn_of-clause-differs g c = λ line expected is.
    for_config (g.H.Shelf.told c.args.shelf.now) c.args.files.config.now c.in-Ok.file
    (λ all config. OfText all c.args.files.listing.now (λ text. DiffersAt (IsListing config) text line expected))
    c.in-Ok.ensures.read
    (subst (λ (told : Option Files). IfSome told (λ all. OfText all c.args.files.listing.now
    (λ text. DiffersAt (IsListing c.in-Ok.file.config) text line expected))) c.in-Ok.ensures.told
    (c.in-Ok-drawn_of.ensures.differs line expected (let e = is in cc)))

pub returns-in-Err-clause-read : goal.returns-in-Err-clause-read
returns-in-Err-clause-read g c =
    config_refused (g.H.Shelf.told c.args.shelf.now) c.args.files.config.now c.in-Err.fault _ refl

pub returns-then-not-has_word_names-clause-read : goal.returns-then-not-has_word_names-clause-read
returns-then-not-has_word_names-clause-read g c =
    config_read (g.H.Shelf.told c.args.shelf.now) c.args.files.config.now c.read_config.result c.in-Ok.file _ c.in-Ok.is c.read_config.ensures.missing
    c.in-Ok.ensures.read

pub returns-in-Ok-drawn_of-clause-read : goal.returns-in-Ok-drawn_of-clause-read
returns-in-Ok-drawn_of-clause-read g c =
    config_read (g.H.Shelf.told c.args.shelf.now) c.args.files.config.now c.read_config.result c.in-Ok.file _ c.in-Ok.is c.read_config.ensures.missing
    c.in-Ok.ensures.read

pub returns-clause-read : goal.returns-clause-read
returns-clause-read g c =
    config_read (g.H.Shelf.told c.args.shelf.now) c.args.files.config.now c.read_config.result c.in-Ok.file _ c.in-Ok.is c.read_config.ensures.missing
    c.in-Ok.ensures.read
