use Rattle.std.proofs.Common.{◌≡◌, ℕ, ◌≤◌, List, length, Some, None, inr, refl, sym, ap, ◌∙◌, subst}
use Rattle.std.specs.Prelude.{Option}
use Rattle.std.specs.Option.{option_map_or}
use Rattle.venue_words.specs.declared.command.Command.{Command}
use Rattle.venue_words.specs.declared.command.Command.TheVariants.{Replace}
use Rattle.venue_words.specs.declared.price.Best.{Best}
use Rattle.venue_words.specs.declared.row.Priced.{Priced}
use Rattle.eager_meaning.specs.declared.order.Live.{Live}
use Rattle.eager_meaning.specs.declared.order.Order.{Order}
use Rattle.eager_meaning.specs.Changing.{replace}
use Rattle.eager_meaning.specs.Orders.{live_named}
use Rattle.eager_meaning.specs.State.{State}
use Rattle.symbol_book.specs.Changes.{with_id}
use Rattle.symbol_book.specs.Finding.{IsFound}
use Rattle.symbol_book.specs.Fitting.{CanWork, ReplaceFits}
use Rattle.symbol_book.specs.Ids.{UsedId, used_of}
use Rattle.symbol_book.specs.Log.{Reports}
use Rattle.symbol_book.specs.Parts.{AreWorked, rows_in, state_in}
use Rattle.symbol_book.specs.Room.{CopiesOrig}
use Rattle.symbol_book.specs.State.{state_of}
use Rattle.symbol_book.specs.declared.finding.Found.{Found}
use Rattle.symbol_book.specs.declared.parts.Parts.{Parts}
use Rattle.symbol_book.proofs.Placing.{placed_as}
use Rattle.symbol_book.proofs.Requests.{live_is, rule_is, rule_by, worked_with, replace_refused, replace_none, replace_done, replace_is_fresh, replace_examined}
use Rattle.symbol_book.proofs.LiveRows.{some_rest}
use Rattle.symbol_book.proofs.replacing.on_replace.Goals as goal

pub replace-requires-clause-id : goal.replace-requires-clause-id
replace-requires-clause-id g c =
    let orders : List Order = c.args.parts.now.orders.items in
    let rows : List Priced = rows_in g.E.Engine.buys g.E.Engine.sells c.args.parts.now in
    let s : State = state_in g.E.Engine.buys g.E.Engine.sells c.args.parts.now in
    let live : Option Live = live_named c.args.ids.copies.orig.member c.args.ids.copies.orig.id orders rows in
    let orig : CopiesOrig c.args.ids.own.member c.args.ids.copies.orig.id c.args.ids = record { owner = c.requires.copies.1; orig = refl } in
    let rule = rule_by c.args.tick c.args.event.now.command live _ _ c.rule_of_request.result c.place-used.ensures.used (c.rule_of_request.ensures rows live c.find_named-live.ensures.live) in
    let fresh = c.place-used.ensures.used ∙ replace_is_fresh c.args.tick c.args.event.now c.args.ids.own.member c.args.ids.own.id c.args.ids.copies.orig.id c.args.ids s c.requires.copies.0 orig c.args.parts.now.entered.items c.args.parts.now.ids.entries c.args.parts.now.log.list c.rule_of_request.result c.args.terms.now c.requires.command live rule c.in-None.is in
    let number : c.number_or_zero.result ≡ c.in-Some-live.found.number = c.number_or_zero.ensures ∙ ap (λ (o : Option Found). option_map_or (λ (found : Found). found.number) o 0) c.in-Some-live.is in
    let short : length c.args.ids.copies.order ≤ c.args.parts.now.orders.longest = subst (λ (id : List ℕ). length id ≤ c.args.parts.now.orders.longest) (sym c.requires.copies.0.order) c.requires.fits.0 in
    (placed_as _ _ _ _ _ _ _ c.requires.copies.0.sender c.requires.copies.0.order number (c.place-used.ensures.placed fresh), short)

pub returns-in-Some-clause-worked : goal.returns-in-Some-clause-worked
returns-in-Some-clause-worked g c =
    let orders : List Order = c.args.parts.now.orders.items in
    let rows : List Priced = rows_in g.E.Engine.buys g.E.Engine.sells c.args.parts.now in
    let s : State = state_in g.E.Engine.buys g.E.Engine.sells c.args.parts.now in
    let live : Option Live = live_named c.args.ids.copies.orig.member c.args.ids.copies.orig.id orders rows in
    let orig : CopiesOrig c.args.ids.own.member c.args.ids.copies.orig.id c.args.ids = record { owner = c.requires.copies.1; orig = refl } in
    let rule = rule_by c.args.tick c.args.event.now.command live _ _ c.rule_of_request.result c.place-used.ensures.used (c.rule_of_request.ensures rows live c.find_named-live.ensures.live) in
    let done = replace_refused c.args.tick c.args.event.now c.args.ids.own.member c.args.ids.own.id c.args.ids.copies.orig.id c.args.ids s c.requires.copies.0 orig c.args.parts.now.entered.items c.args.parts.now.ids.entries c.args.parts.now.log.list c.rule_of_request.result c.args.terms.now c.requires.command live c.in-Some.rule c.refuse.new.parts.log.list c.refuse.result refl rule c.in-Some.is (c.refuse.ensures.reports rows live c.find_named-live.ensures.live) in
    subst (λ (after : Parts _). AreWorked g.E.Engine.buys g.E.Engine.sells c.args.tick c.args.event.now c.args.parts.now after c.refuse.result) (sym c.refuse.ensures.rest)
    (worked_with _ _ _ _ _ _ _ _ _ _ _ _ _ _ (c.take_back.ensures.entries ∙ c.place-used.ensures.entries) done)

pub returns-in-None-live-clause-worked : goal.returns-in-None-live-clause-worked
returns-in-None-live-clause-worked g c =
    let orders : List Order = c.args.parts.now.orders.items in
    let rows : List Priced = rows_in g.E.Engine.buys g.E.Engine.sells c.args.parts.now in
    let s : State = state_in g.E.Engine.buys g.E.Engine.sells c.args.parts.now in
    let live : Option Live = live_named c.args.ids.copies.orig.member c.args.ids.copies.orig.id orders rows in
    let orig : CopiesOrig c.args.ids.own.member c.args.ids.copies.orig.id c.args.ids = record { owner = c.requires.copies.1; orig = refl } in
    let none : live ≡ None = subst (IsFound orders rows live) c.in-None-live.is c.find_named-live.ensures.live in
    let none_found : IsFound orders rows None c.find_named-live.result = subst (λ (o : Option Live). IsFound orders rows o c.find_named-live.result) none c.find_named-live.ensures.live in
    let rule = rule_by c.args.tick c.args.event.now.command None _ _ c.rule_of_request.result c.place-used.ensures.used (c.rule_of_request.ensures rows None none_found) in
    let done = replace_none c.args.tick c.args.event.now c.args.ids.own.member c.args.ids.own.id c.args.ids.copies.orig.id c.args.ids s c.requires.copies.0 orig c.args.parts.now.entered.items c.args.parts.now.ids.entries c.args.parts.now.log.list c.rule_of_request.result c.args.terms.now c.requires.command none rule c.in-None.is in
    worked_with _ _ _ _ _ _ _ _ _ _ _ _ _ _ (c.take_back-in-None-live.ensures.entries ∙ c.place-used.ensures.entries) done

pub returns-in-Some-live-clause-worked : goal.returns-in-Some-live-clause-worked
returns-in-Some-live-clause-worked g c =
    let orders : List Order = c.args.parts.now.orders.items in
    let rows : List Priced = rows_in g.E.Engine.buys g.E.Engine.sells c.args.parts.now in
    let s : State = state_in g.E.Engine.buys g.E.Engine.sells c.args.parts.now in
    let live : Option Live = live_named c.args.ids.copies.orig.member c.args.ids.copies.orig.id orders rows in
    let orig : CopiesOrig c.args.ids.own.member c.args.ids.copies.orig.id c.args.ids = record { owner = c.requires.copies.1; orig = refl } in
    let r : IsFound orders rows live (Some c.in-Some-live.found) = subst (IsFound orders rows live) c.in-Some-live.is c.find_named-live.ensures.live in
    let one : IsFound orders rows (Some r.0) c.find_named-live.result = subst (λ (o : Option Live). IsFound orders rows o c.find_named-live.result) r.1 c.find_named-live.ensures.live in
    let rule = rule_by c.args.tick c.args.event.now.command (Some r.0) _ _ c.rule_of_request.result c.place-used.ensures.used (c.rule_of_request.ensures rows (Some r.0) one) in
    let at : List UsedId → State = λ es. state_of c.args.parts.now.markets (g.E.Engine.buys c.args.parts.now.engine) (g.E.Engine.sells c.args.parts.now.engine) orders (used_of es) in
    let state = subst (λ (es : List UsedId). (replace c.args.tick c.args.event.now.number c.args.ids.copies.member c.args.ids.copies.order c.args.ids.copies.orig.id c.args.terms.now r.0 (at es)).state ≡ state_in g.E.Engine.buys g.E.Engine.sells c.replace.new.parts) c.place-used.ensures.entries (c.replace.ensures.state r.0 r.2) in
    let told = subst (λ (es : List UsedId). Reports c.args.event.now c.args.parts.now.log.list 1 (replace c.args.tick c.args.event.now.number c.args.ids.copies.member c.args.ids.copies.order c.args.ids.copies.orig.id c.args.terms.now r.0 (at es)).notices c.replace.new.parts.log.list c.replace.result) c.place-used.ensures.entries (c.replace.ensures.reports r.0 r.2) in
    let ids = c.replace.ensures.ids ∙ ap (λ (es : List UsedId). with_id c.args.ids.copies.member c.args.ids.copies.order c.in-Some-live.found.number es) c.place-used.ensures.entries in
    replace_done c.args.tick c.args.event.now c.args.ids.own.member c.args.ids.own.id c.args.ids.copies.orig.id c.args.ids s c.requires.copies.0 orig c.args.parts.now.entered.items c.args.parts.now.ids.entries c.args.parts.now.log.list c.rule_of_request.result c.args.terms.now c.requires.command r.0 c.in-Some-live.found.number _ _ _ _ _ r.1 rule c.in-None.is r.2.number state told (c.replace.ensures.entered r.0 r.2) ids

pub replace-requires-clause-found : goal.replace-requires-clause-found
replace-requires-clause-found g c =
    let orders : List Order = c.args.parts.now.orders.items in
    let rows : List Priced = rows_in g.E.Engine.buys g.E.Engine.sells c.args.parts.now in
    let s : State = state_in g.E.Engine.buys g.E.Engine.sells c.args.parts.now in
    let live : Option Live = live_named c.args.ids.copies.orig.member c.args.ids.copies.orig.id orders rows in
    let orig : CopiesOrig c.args.ids.own.member c.args.ids.copies.orig.id c.args.ids = record { owner = c.requires.copies.1; orig = refl } in
    let r : IsFound orders rows live (Some c.in-Some-live.found) = subst (IsFound orders rows live) c.in-Some-live.is c.find_named-live.ensures.live in
    let one : IsFound orders rows (Some r.0) c.find_named-live.result = subst (λ (o : Option Live). IsFound orders rows o c.find_named-live.result) r.1 c.find_named-live.ensures.live in
    let named = live_is c.args.tick c.args.event.now c.args.ids.own.member c.args.ids.own.id c.args.ids.copies.orig.id c.args.ids s c.requires.copies.0 orig (Some r.0) r.1 in
    let rule = rule_is c.args.tick c.args.event.now c.args.ids.own.member c.args.ids.own.id c.args.ids.copies.orig.id c.args.ids s c.requires.copies.0 orig (Replace c.args.ids.own.member c.args.ids.own.id c.args.ids.copies.orig.id c.args.terms.now) (Some r.0) c.rule_of_request.result c.requires.command (rule_by c.args.tick c.args.event.now.command (Some r.0) _ _ c.rule_of_request.result c.place-used.ensures.used (c.rule_of_request.ensures rows (Some r.0) one)) ∙ c.in-None.is in
    let can = subst (λ (x : Command). CanWork c.args.tick c.args.event.now.number x s) c.requires.command c.requires.fits.1 in
    let fits = can.1 r.0 named rule in (
      r.0,
      r.2,
      fits.0,
      rw (c.requires.copies.0.sender, c.requires.copies.0.order) (subst (λ (best : Best). ReplaceFits c.args.tick c.args.event.now.number c.args.ids.own.member c.args.ids.own.id c.args.terms.now r.0 best (g.E.Engine.buys c.args.parts.now.engine) (g.E.Engine.sells c.args.parts.now.engine) orders) (sym c.requires.agree.quote) fits.1),
    )

pub returns-in-Some-live-clause-most : goal.returns-in-Some-live-clause-most
returns-in-Some-live-clause-most g c =
    let orders : List Order = c.args.parts.now.orders.items in
    let rows : List Priced = rows_in g.E.Engine.buys g.E.Engine.sells c.args.parts.now in
    let s : State = state_in g.E.Engine.buys g.E.Engine.sells c.args.parts.now in
    let live : Option Live = live_named c.args.ids.copies.orig.member c.args.ids.copies.orig.id orders rows in
    let orig : CopiesOrig c.args.ids.own.member c.args.ids.copies.orig.id c.args.ids = record { owner = c.requires.copies.1; orig = refl } in
    let r : IsFound orders rows live (Some c.in-Some-live.found) = subst (IsFound orders rows live) c.in-Some-live.is c.find_named-live.ensures.live in
    let one : IsFound orders rows (Some r.0) c.find_named-live.result = subst (λ (o : Option Live). IsFound orders rows o c.find_named-live.result) r.1 c.find_named-live.ensures.live in
    let examined_is = replace_examined c.args.tick c.args.event.now c.args.ids.own.member c.args.ids.own.id c.args.ids.copies.orig.id c.args.ids s c.requires.copies.0 orig c.args.parts.now.entered.items c.args.parts.now.ids.entries c.args.parts.now.log.list _ c.args.terms.now c.requires.command r.0 r.1 (rule_by c.args.tick c.args.event.now.command (Some r.0) _ _ c.rule_of_request.result c.place-used.ensures.used (c.rule_of_request.ensures rows (Some r.0) one)) c.in-None.is in
    rw (examined_is, ← c.place-used.ensures.entries) (c.replace.ensures.most r.0 r.2)

pub returns-in-Some-live-clause-idle : goal.returns-in-Some-live-clause-idle
returns-in-Some-live-clause-idle g c =
    let orders : List Order = c.args.parts.now.orders.items in
    let rows : List Priced = rows_in g.E.Engine.buys g.E.Engine.sells c.args.parts.now in
    let s : State = state_in g.E.Engine.buys g.E.Engine.sells c.args.parts.now in
    let live : Option Live = live_named c.args.ids.copies.orig.member c.args.ids.copies.orig.id orders rows in
    let orig : CopiesOrig c.args.ids.own.member c.args.ids.copies.orig.id c.args.ids = record { owner = c.requires.copies.1; orig = refl } in
    let r : IsFound orders rows live (Some c.in-Some-live.found) = subst (IsFound orders rows live) c.in-Some-live.is c.find_named-live.ensures.live in
    inr (some_rest c.in-Some-live.found.number rows r.0.row r.2.row)
