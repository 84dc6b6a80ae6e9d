use Rattle.std.proofs.Common.{◌≡◌, List, Some, None, refl, sym, ap, ◌∙◌, subst}
use Rattle.std.specs.Prelude.{Option}
use Rattle.std.specs.Option.{option_map_or}
use Rattle.venue_words.specs.declared.row.Priced.{Priced}
use Rattle.eager_meaning.specs.declared.order.Live.{Live}
use Rattle.eager_meaning.specs.declared.order.Order.{Order}
use Rattle.eager_meaning.specs.Changing.{cancel}
use Rattle.eager_meaning.specs.Orders.{live_named}
use Rattle.eager_meaning.specs.State.{State}
use Rattle.symbol_book.specs.Changes.{with_id}
use Rattle.symbol_book.specs.Finding.{IsFound}
use Rattle.symbol_book.specs.Ids.{UsedId, used_of}
use Rattle.symbol_book.specs.Log.{Reports}
use Rattle.symbol_book.specs.Parts.{AreWorked, rows_in, state_in}
use Rattle.symbol_book.specs.Room.{CopiesOrig}
use Rattle.symbol_book.specs.State.{state_of}
use Rattle.symbol_book.specs.declared.finding.Found.{Found}
use Rattle.symbol_book.specs.declared.parts.Parts.{Parts}
use Rattle.symbol_book.proofs.Placing.{placed_as}
use Rattle.symbol_book.proofs.Requests.{rule_by, worked_with, cancel_refused, cancel_none, cancel_done, cancel_is_fresh}
use Rattle.symbol_book.proofs.canceling.on_cancel.Goals as goal

pub cancel-requires-clause-placed : goal.cancel-requires-clause-placed
cancel-requires-clause-placed g c =
    let orders : List Order = c.args.parts.now.orders.items in
    let rows : List Priced = rows_in g.E.Engine.buys g.E.Engine.sells c.args.parts.now in
    let s : State = state_in g.E.Engine.buys g.E.Engine.sells c.args.parts.now in
    let live : Option Live = live_named c.args.ids.copies.orig.member c.args.ids.copies.orig.id orders rows in
    let orig : CopiesOrig c.args.ids.own.member c.args.ids.copies.orig.id c.args.ids = record { owner = c.requires.orig; orig = refl } in
    let rule = rule_by c.args.tick c.args.event.now.command live _ _ c.rule_of_request.result c.place-used.ensures.used (c.rule_of_request.ensures rows live c.find_named-live.ensures.live) in
    let fresh = c.place-used.ensures.used ∙ cancel_is_fresh c.args.tick c.args.event.now c.args.ids.own.member c.args.ids.own.id c.args.ids.copies.orig.id c.args.ids s c.requires.own orig c.args.parts.now.entered.items c.args.parts.now.ids.entries c.args.parts.now.log.list c.rule_of_request.result c.requires.command live rule c.in-None.is in
    let number : c.number_or_zero.result ≡ c.in-Some-live.found.number = c.number_or_zero.ensures ∙ ap (λ (o : Option Found). option_map_or (λ (found : Found). found.number) o 0) c.in-Some-live.is in
    placed_as _ _ _ _ _ _ _ c.requires.own.sender c.requires.own.shown number (c.place-used.ensures.placed fresh)

pub returns-in-Some-clause-worked : goal.returns-in-Some-clause-worked
returns-in-Some-clause-worked g c =
    let orders : List Order = c.args.parts.now.orders.items in
    let rows : List Priced = rows_in g.E.Engine.buys g.E.Engine.sells c.args.parts.now in
    let s : State = state_in g.E.Engine.buys g.E.Engine.sells c.args.parts.now in
    let live : Option Live = live_named c.args.ids.copies.orig.member c.args.ids.copies.orig.id orders rows in
    let orig : CopiesOrig c.args.ids.own.member c.args.ids.copies.orig.id c.args.ids = record { owner = c.requires.orig; orig = refl } in
    let rule = rule_by c.args.tick c.args.event.now.command live _ _ c.rule_of_request.result c.place-used.ensures.used (c.rule_of_request.ensures rows live c.find_named-live.ensures.live) in
    let done = cancel_refused c.args.tick c.args.event.now c.args.ids.own.member c.args.ids.own.id c.args.ids.copies.orig.id c.args.ids s c.requires.own orig c.args.parts.now.entered.items c.args.parts.now.ids.entries c.args.parts.now.log.list c.rule_of_request.result c.requires.command live c.in-Some.rule c.refuse.new.parts.log.list c.refuse.result refl rule c.in-Some.is (c.refuse.ensures.reports rows live c.find_named-live.ensures.live) in
    subst (λ (after : Parts _). AreWorked g.E.Engine.buys g.E.Engine.sells c.args.tick c.args.event.now c.args.parts.now after c.refuse.result) (sym c.refuse.ensures.rest)
    (worked_with _ _ _ _ _ _ _ _ _ _ _ _ _ _ (c.take_back.ensures.entries ∙ c.place-used.ensures.entries) done)

pub returns-in-None-live-clause-worked : goal.returns-in-None-live-clause-worked
returns-in-None-live-clause-worked g c =
    let orders : List Order = c.args.parts.now.orders.items in
    let rows : List Priced = rows_in g.E.Engine.buys g.E.Engine.sells c.args.parts.now in
    let s : State = state_in g.E.Engine.buys g.E.Engine.sells c.args.parts.now in
    let live : Option Live = live_named c.args.ids.copies.orig.member c.args.ids.copies.orig.id orders rows in
    let orig : CopiesOrig c.args.ids.own.member c.args.ids.copies.orig.id c.args.ids = record { owner = c.requires.orig; orig = refl } in
    let none : live ≡ None = subst (IsFound orders rows live) c.in-None-live.is c.find_named-live.ensures.live in
    let none_found : IsFound orders rows None c.find_named-live.result = subst (λ (o : Option Live). IsFound orders rows o c.find_named-live.result) none c.find_named-live.ensures.live in
    let rule = rule_by c.args.tick c.args.event.now.command None _ _ c.rule_of_request.result c.place-used.ensures.used (c.rule_of_request.ensures rows None none_found) in
    let done = cancel_none c.args.tick c.args.event.now c.args.ids.own.member c.args.ids.own.id c.args.ids.copies.orig.id c.args.ids s c.requires.own orig c.args.parts.now.entered.items c.args.parts.now.ids.entries c.args.parts.now.log.list c.rule_of_request.result c.requires.command none rule c.in-None.is in
    worked_with _ _ _ _ _ _ _ _ _ _ _ _ _ _ (c.take_back-in-None-live.ensures.entries ∙ c.place-used.ensures.entries) done

pub returns-in-Some-live-clause-worked : goal.returns-in-Some-live-clause-worked
returns-in-Some-live-clause-worked g c =
    let orders : List Order = c.args.parts.now.orders.items in
    let rows : List Priced = rows_in g.E.Engine.buys g.E.Engine.sells c.args.parts.now in
    let s : State = state_in g.E.Engine.buys g.E.Engine.sells c.args.parts.now in
    let live : Option Live = live_named c.args.ids.copies.orig.member c.args.ids.copies.orig.id orders rows in
    let orig : CopiesOrig c.args.ids.own.member c.args.ids.copies.orig.id c.args.ids = record { owner = c.requires.orig; orig = refl } in
    let r : IsFound orders rows live (Some c.in-Some-live.found) = subst (IsFound orders rows live) c.in-Some-live.is c.find_named-live.ensures.live in
    let one : IsFound orders rows (Some r.0) c.find_named-live.result = subst (λ (o : Option Live). IsFound orders rows o c.find_named-live.result) r.1 c.find_named-live.ensures.live in
    let rule = rule_by c.args.tick c.args.event.now.command (Some r.0) _ _ c.rule_of_request.result c.place-used.ensures.used (c.rule_of_request.ensures rows (Some r.0) one) in
    let at : List UsedId → State = λ es. state_of c.args.parts.now.markets (g.E.Engine.buys c.args.parts.now.engine) (g.E.Engine.sells c.args.parts.now.engine) orders (used_of es) in
    let state = subst (λ (es : List UsedId). (cancel c.args.ids.copies.member c.args.ids.copies.shown c.args.ids.copies.orig.id r.0 (at es)).state ≡ state_in g.E.Engine.buys g.E.Engine.sells c.cancel.new.parts) c.place-used.ensures.entries (c.cancel.ensures.state r.0 r.2) in
    let told = subst (λ (es : List UsedId). Reports c.args.event.now c.args.parts.now.log.list 1 (cancel c.args.ids.copies.member c.args.ids.copies.shown c.args.ids.copies.orig.id r.0 (at es)).notices c.cancel.new.parts.log.list c.cancel.result) c.place-used.ensures.entries (c.cancel.ensures.reports r.0 r.2) in
    let ids = c.cancel.ensures.ids ∙ ap (λ (es : List UsedId). with_id c.args.ids.copies.member c.args.ids.copies.shown c.in-Some-live.found.number es) c.place-used.ensures.entries in
    cancel_done c.args.tick c.args.event.now c.args.ids.own.member c.args.ids.own.id c.args.ids.copies.orig.id c.args.ids s c.requires.own orig c.args.parts.now.entered.items c.args.parts.now.ids.entries c.args.parts.now.log.list c.rule_of_request.result c.requires.command r.0 c.in-Some-live.found.number _ _ _ _ _ r.1 rule c.in-None.is r.2.number state told c.cancel.ensures.entered ids
