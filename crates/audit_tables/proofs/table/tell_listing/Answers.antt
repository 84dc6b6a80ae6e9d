-- What the watch says stands behind the header, and in front of what is held at the end.
use Rattle.std.proofs.Common.{◌≡◌, ℕ, List, Ok, ◌∙◌, ap}
use Rattle.audit_core.specs.declared.verdict.Verdict.{Verdict}
use Rattle.audit_core.specs.declared.verdict.Verdict.TheVariants.{Differs, Same}
use Rattle.audit_core.specs.Fronts.{SaysBefore, SaysSome}
use Rattle.audit_core.specs.Telling.{ListsAndSays}
use Rattle.audit_core.proofs.Erring.{files_map, if_at_err}
use Rattle.audit_tables.specs.Tables.{PutsBefore, PutsListing, PutsSome}
use Rattle.audit_tables.proofs.Putting.{never_missing, put_before, put_listing, some_any, some_first, some_last, some_more}
use Rattle.audit_tables.proofs.table.tell_listing.Goals as goal

pub follow-requires-clause-heard : goal.follow-requires-clause-heard
follow-requires-clause-heard g c = c.in_ok-begin.ensures.heard

pub returns-in_err-begin-clause-stops : goal.returns-in_err-begin-clause-stops
returns-in_err-begin-clause-stops g c =
    let from = g.T.Watch.output c.args.table.now in
    let to = g.T.Watch.output c.begin.new.self in
    let some = λ (text : List ℕ). PutsSome g.T.Watch.tells g.T.Table.header c.args.config.now text from to in
    if_at_err _ c.from_residual.result _ c.from_residual.ensures.1
    (some_any (g.H.Shelf.told c.args.shelf.now) c.args.name.now some
    (λ text. some_first g.T.Watch.tells g.T.Table.header c.args.config.now text from to c.in_err-begin.ensures.text))

pub returns-in_err-verdict-clause-stops : goal.returns-in_err-verdict-clause-stops
returns-in_err-verdict-clause-stops g c =
    let from = g.T.Watch.output c.args.table.now in
    let begun = g.T.Watch.output c.begin.new.self in
    let to = g.T.Watch.output c.follow.new.watch in
    let said = λ (text : List ℕ). SaysSome g.T.Watch.tells c.args.config.now text begun to in
    let some = λ (text : List ℕ). PutsSome g.T.Watch.tells g.T.Table.header c.args.config.now text from to in
    if_at_err _ c.from_residual-in_err-verdict.result _ c.from_residual-in_err-verdict.ensures.1
    (files_map (g.H.Shelf.told c.args.shelf.now) c.args.name.now said some
    (λ text x. some_more g.T.Watch.tells g.T.Table.header c.args.config.now text from begun to c.in_ok-begin.ensures.text x)
    c.in_err-verdict.ensures.stops)

pub returns-in-Ok-clause-same : goal.returns-in-Ok-clause-same
returns-in-Ok-clause-same g c = λ is.
    let found : c.follow.result ≡ Ok Same = c.in_ok-verdict.was ∙ is in
    let from = g.T.Watch.output c.args.table.now in
    let begun = g.T.Watch.output c.begin.new.self in
    let said = g.T.Watch.output c.follow.new.watch in
    let to = g.T.Watch.output c.finish.new.self in
    let lists = λ (text : List ℕ). ListsAndSays g.T.Watch.tells c.args.config.now text begun said in
    let puts = λ (text : List ℕ). PutsListing g.T.Watch.tells g.T.Table.header c.args.config.now text from to in
    files_map (g.H.Shelf.told c.args.shelf.now) c.args.name.now lists puts
    (λ text x. put_listing g.T.Watch.tells g.T.Table.header c.args.config.now text from begun said to c.in_ok-begin.ensures.text
    c.in-Ok.ensures.text c.in-Ok.ensures.none x)
    (c.follow.ensures.same found)

pub returns-in-Ok-clause-differs : goal.returns-in-Ok-clause-differs
returns-in-Ok-clause-differs g c = λ line expected is.
    let found : c.follow.result ≡ Ok (Differs line expected) = c.in_ok-verdict.was ∙ is in c.follow.ensures.differs line expected found

pub returns-in-Ok-clause-exact : goal.returns-in-Ok-clause-exact
returns-in-Ok-clause-exact g c = λ line expected is.
    let found : c.follow.result ≡ Ok (Differs line expected) = c.in_ok-verdict.was ∙ is in c.follow.ensures.exact line expected found

pub returns-in-Ok-clause-tells : goal.returns-in-Ok-clause-tells
returns-in-Ok-clause-tells g c = λ line expected is.
    let found : c.follow.result ≡ Ok (Differs line expected) = c.in_ok-verdict.was ∙ is in
    let from = g.T.Watch.output c.args.table.now in
    let begun = g.T.Watch.output c.begin.new.self in
    let said = g.T.Watch.output c.follow.new.watch in
    let to = g.T.Watch.output c.finish.new.self in
    let says = λ (text : List ℕ). SaysBefore g.T.Watch.tells c.args.config.now text line begun said in
    let puts = λ (text : List ℕ). PutsBefore g.T.Watch.tells g.T.Table.header c.args.config.now text line from to in
    files_map (g.H.Shelf.told c.args.shelf.now) c.args.name.now says puts
    (λ text x. put_before g.T.Watch.tells g.T.Table.header c.args.config.now text line from begun said to c.in_ok-begin.ensures.text
    c.in-Ok.ensures.text c.in-Ok.ensures.none x)
    (c.follow.ensures.tells line expected found)

pub returns-in-Ok-clause-missing : goal.returns-in-Ok-clause-missing
returns-in-Ok-clause-missing g c =
    never_missing (g.H.Shelf.told c.args.shelf.now) c.args.name.now c.follow.result c.in_ok-verdict.verdict _ c.in_ok-verdict.was c.follow.ensures.missing

pub returns-in-Err-clause-stops : goal.returns-in-Err-clause-stops
returns-in-Err-clause-stops g c =
    some_last g.T.Watch.tells g.T.Table.header c.args.config.now (g.H.Shelf.told c.args.shelf.now) c.args.name.now c.in_ok-verdict.verdict
    (g.T.Watch.output c.args.table.now) (g.T.Watch.output c.begin.new.self) (g.T.Watch.output c.follow.new.watch) (g.T.Watch.output c.finish.new.self)
    c.in_ok-begin.ensures.text c.in-Err.ensures.text
    (λ is. let found : c.follow.result ≡ Ok Same = c.in_ok-verdict.was ∙ ap (λ (v : Verdict). Ok v) is in c.follow.ensures.same found)
    (λ line expected is. let found : c.follow.result ≡ Ok (Differs line expected) = c.in_ok-verdict.was ∙ ap (λ (v : Verdict). Ok v) is in c.follow.ensures.tells line expected found)
