-- What is told of the config that was read is told of every config that its file says.
use Rattle.std.proofs.Common.{Option, IfSome, refl, subst}
use Rattle.io_edge.specs.Files.{Files, file_named}
use Rattle.audit_core.specs.Audited.{IsListing, OfText}
use Rattle.audit_core.specs.Differing.{DiffersAt}
use Rattle.audit_core.proofs.Filing.{IsThere, config_read, config_refused, config_there, for_config}
use Rattle.audit_tables.specs.Tables.{PutsBefore, PutsListing, PutsSome}
use Rattle.audit_tables.proofs.Putting.{listing_there, put_day, put_nothing}
use Rattle.audit_tables.proofs.table.tabulate.Goals as goal

pub returns-in-Err-clause-stops : goal.returns-in-Err-clause-stops
returns-in-Err-clause-stops g c =
    put_nothing g.T.Watch.tells g.T.Table.header (g.H.Shelf.told c.args.shelf.now) c.args.files.config.now c.args.files.listing.now (g.T.Watch.output c.args.table.now)

pub returns-then-not-has_word_names-clause-stops : goal.returns-then-not-has_word_names-clause-stops
returns-then-not-has_word_names-clause-stops g c =
    put_nothing g.T.Watch.tells g.T.Table.header (g.H.Shelf.told c.args.shelf.now) c.args.files.config.now c.args.files.listing.now (g.T.Watch.output c.args.table.now)

pub returns-clause-stops : goal.returns-clause-stops
returns-clause-stops g c =
    let from = g.T.Watch.output c.args.table.now in
    let to = g.T.Watch.output c.tell_listing.new.table in
    for_config (g.H.Shelf.told c.args.shelf.now) c.args.files.config.now c.in-Ok.file
    (λ all config. OfText all c.args.files.listing.now (λ text. PutsSome g.T.Watch.tells g.T.Table.header config text from to))
    c.in-Ok.ensures.read
    (subst (λ (told : Option Files). IfSome told (λ all. OfText all c.args.files.listing.now
    (λ text. PutsSome g.T.Watch.tells g.T.Table.header c.in-Ok.file.config text from to))) c.in-Ok.ensures.told
    c.in-Err-tell_listing.ensures.stops)

pub returns-in-Ok-tell_listing-clause-same : goal.returns-in-Ok-tell_listing-clause-same
returns-in-Ok-tell_listing-clause-same g c = λ is.
    let all = g.H.Shelf.told c.args.shelf.now in
    let from = g.T.Watch.output c.args.table.now in
    let to = g.T.Watch.output c.tell_listing.new.table in
    put_day g.T.Watch.tells g.T.Table.header all c.args.files.config.now c.args.files.listing.now c.in-Ok.file from to
    c.in-Ok.ensures.read
    (config_there all c.args.files.config.now c.read_config.result c.in-Ok.file c.in-Ok.is c.read_config.ensures.missing)
    (subst (λ (told : Option Files). IsThere told c.args.files.listing.now) c.in-Ok.ensures.told
    (listing_there (g.H.Shelf.told c.read_config.new.shelf) c.args.files.listing.now c.tell_listing.result c.in-Ok-tell_listing.verdict c.in-Ok-tell_listing.is
    c.tell_listing.ensures.missing))
    (subst (λ (told : Option Files). IfSome told (λ files. IfSome (file_named files c.args.files.listing.now)
    (λ text. PutsListing g.T.Watch.tells g.T.Table.header c.in-Ok.file.config text from to))) c.in-Ok.ensures.told
    (c.in-Ok-tell_listing.ensures.same (let e = is in cc)))

pub returns-in-Ok-tell_listing-clause-differs : goal.returns-in-Ok-tell_listing-clause-differs
returns-in-Ok-tell_listing-clause-differs g c = λ line expected is.
    for_config (g.H.Shelf.told c.args.shelf.now) c.args.files.config.now c.in-Ok.file
    (λ all config. OfText all c.args.files.listing.now (λ text. DiffersAt (IsListing config) text line expected))
    c.in-Ok.ensures.read
    (subst (λ (told : Option Files). IfSome told (λ all. OfText all c.args.files.listing.now
    (λ text. DiffersAt (IsListing c.in-Ok.file.config) text line expected))) c.in-Ok.ensures.told
    (c.in-Ok-tell_listing.ensures.differs line expected (let e = is in cc)))

pub returns-in-Ok-tell_listing-clause-tells : goal.returns-in-Ok-tell_listing-clause-tells
returns-in-Ok-tell_listing-clause-tells g c = λ line expected is.
    let from = g.T.Watch.output c.args.table.now in
    let to = g.T.Watch.output c.tell_listing.new.table in
    for_config (g.H.Shelf.told c.args.shelf.now) c.args.files.config.now c.in-Ok.file
    (λ all config. OfText all c.args.files.listing.now (λ text. PutsBefore g.T.Watch.tells g.T.Table.header config text line from to))
    c.in-Ok.ensures.read
    (subst (λ (told : Option Files). IfSome told (λ all. OfText all c.args.files.listing.now
    (λ text. PutsBefore g.T.Watch.tells g.T.Table.header c.in-Ok.file.config text line from to))) c.in-Ok.ensures.told
    (c.in-Ok-tell_listing.ensures.tells line expected (let e = is in cc)))

pub returns-in-Err-clause-read : goal.returns-in-Err-clause-read
returns-in-Err-clause-read g c =
    config_refused (g.H.Shelf.told c.args.shelf.now) c.args.files.config.now c.in-Err.fault _ refl

pub returns-then-not-has_word_names-clause-read : goal.returns-then-not-has_word_names-clause-read
returns-then-not-has_word_names-clause-read g c =
    config_read (g.H.Shelf.told c.args.shelf.now) c.args.files.config.now c.read_config.result c.in-Ok.file _ c.in-Ok.is c.read_config.ensures.missing
    c.in-Ok.ensures.read

pub returns-in-Ok-tell_listing-clause-read : goal.returns-in-Ok-tell_listing-clause-read
returns-in-Ok-tell_listing-clause-read g c =
    config_read (g.H.Shelf.told c.args.shelf.now) c.args.files.config.now c.read_config.result c.in-Ok.file _ c.in-Ok.is c.read_config.ensures.missing
    c.in-Ok.ensures.read

pub returns-clause-read : goal.returns-clause-read
returns-clause-read g c =
    config_read (g.H.Shelf.told c.args.shelf.now) c.args.files.config.now c.read_config.result c.in-Ok.file _ c.in-Ok.is c.read_config.ensures.missing
    c.in-Ok.ensures.read
