use Rattle.std.proofs.Common.{◌≡◌, map, refl, sym, ◌∙◌}
use Rattle.audit_feeds.specs.declared.auditing.FeedsVerdict.TheVariants.{Same, Departures}
use Rattle.audit_feeds.proofs.Days.{if_day, if_departures, if_other, if_refused, if_sound, if_told}
use Rattle.audit_feeds.proofs.auditing.audit_feeds.Goals as goal

pub returns-in-Ok-tell_departures-clause-same : goal.returns-in-Ok-tell_departures-clause-same
returns-in-Ok-tell_departures-clause-same g c = λ is.
    let verdict : c.verdict_of.result ≡ Same = cc in
    let same = c.verdict_of.ensures.same verdict in
    if_day c.args.files.config.now c.args.files.listing.now (map (λ feed. feed.now) c.args.feeds.now) c.in-Ok.lists.items (g.H.Shelf.told c.args.shelf.now)
    (g.H.Shelf.told c.read_lists.new.shelf) c.as_slice.result.now c.in-Ok-tell_departures.found.departures c.in-Ok.ensures.told c.as_slice.ensures.value c.in-Ok.ensures.lists
    (c.in-Ok-tell_departures.ensures.same same.0) same.1

pub returns-in-Ok-tell_departures-clause-departures : goal.returns-in-Ok-tell_departures-clause-departures
returns-in-Ok-tell_departures-clause-departures g c = λ text is.
    let verdict : c.verdict_of.result ≡ Departures text = cc in
    let departures = c.verdict_of.ensures.departures text verdict in
    if_departures c.args.files.config.now c.args.files.listing.now (map (λ feed. feed.now) c.args.feeds.now) c.in-Ok.lists.items (g.H.Shelf.told c.args.shelf.now)
    (g.H.Shelf.told c.read_lists.new.shelf) c.as_slice.result.now c.in-Ok-tell_departures.found.departures c.in-Ok.ensures.told c.as_slice.ensures.value c.in-Ok.ensures.lists
    (c.in-Ok-tell_departures.ensures.same departures.0) (λ none. departures.2 (sym departures.1 ∙ none))

pub returns-in-Ok-tell_departures-clause-exact : goal.returns-in-Ok-tell_departures-clause-exact
returns-in-Ok-tell_departures-clause-exact g c = λ text is.
    let verdict : c.verdict_of.result ≡ Departures text = cc in
    let departures = c.verdict_of.ensures.departures text verdict in
    if_other c.args.files.config.now c.args.files.listing.now (map (λ feed. feed.now) c.args.feeds.now) c.in-Ok.lists.items c.runs_are_in_order.ensures
    c.reports_are_few.ensures (g.H.Shelf.told c.args.shelf.now) (g.H.Shelf.told c.read_lists.new.shelf) c.as_slice.result.now
    c.in-Ok-tell_departures.found.departures c.in-Ok.ensures.told c.as_slice.ensures.value c.in-Ok.ensures.lists (c.in-Ok-tell_departures.ensures.same departures.0)
    (λ none. departures.2 (sym departures.1 ∙ none))

pub returns-in-Ok-tell_departures-clause-tells : goal.returns-in-Ok-tell_departures-clause-tells
returns-in-Ok-tell_departures-clause-tells g c = λ text is.
    let verdict : c.verdict_of.result ≡ Departures text = cc in
    let departures = c.verdict_of.ensures.departures text verdict in
    if_told c.args.files.config.now c.args.files.listing.now (map (λ feed. feed.now) c.args.feeds.now) c.in-Ok.lists.items (g.H.Shelf.told c.args.shelf.now)
    (g.H.Shelf.told c.read_lists.new.shelf) c.as_slice.result.now c.in-Ok-tell_departures.found.departures text c.in-Ok.ensures.told c.as_slice.ensures.value
    c.in-Ok.ensures.lists (c.in-Ok-tell_departures.ensures.same departures.0) departures.1

pub returns-in-Err-clause-read : goal.returns-in-Err-clause-read
returns-in-Err-clause-read g c =
    if_refused (g.H.Shelf.told c.args.shelf.now) c.args.files.config.now (map (λ feed. feed.now) c.args.feeds.now) c.in-Err.status _ refl

pub returns-in-Ok-tell_departures-clause-read : goal.returns-in-Ok-tell_departures-clause-read
returns-in-Ok-tell_departures-clause-read g c =
    if_sound c.args.files.config.now c.args.files.listing.now (map (λ feed. feed.now) c.args.feeds.now) c.in-Ok.lists.items (g.H.Shelf.told c.args.shelf.now) _
    c.in-Ok.ensures.lists

pub returns-clause-read : goal.returns-clause-read
returns-clause-read g c =
    if_sound c.args.files.config.now c.args.files.listing.now (map (λ feed. feed.now) c.args.feeds.now) c.in-Ok.lists.items (g.H.Shelf.told c.args.shelf.now) _
    c.in-Ok.ensures.lists
