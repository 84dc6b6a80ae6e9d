use Rattle.std.proofs.Common.{◌≡◌, ◌+◌, ◌≤◌, ℕ, Bool, true, false, List, sym, ap, ◌∙◌, subst, rules, arith}
use Rattle.venue_words.specs.declared.terms.Terms.{Terms}
use Rattle.venue_words.specs.declared.row.Priced.{Priced}
use Rattle.eager_meaning.specs.declared.order.Live.{Live}
use Rattle.eager_meaning.specs.declared.order.Order.{Order}
use Rattle.eager_meaning.specs.Changing.{only_lowers}
use Rattle.eager_meaning.specs.State.{State, Outcome}
use Rattle.symbol_book.specs.Finding.{IsFoundAs}
use Rattle.symbol_book.specs.Log.{Reports}
use Rattle.symbol_book.specs.Parts.{state_in}
use Rattle.symbol_book.specs.declared.finding.Found.{Found}
use Rattle.symbol_book.proofs.Requests.{replace_lowers, replace_enters}
use Rattle.symbol_book.proofs.replacing.replace.Goals as goal

-- what was tested of the live order
tested : (tick : ℕ) (terms : Terms) (found : Found) (result b : Bool) (slice orders : List Order) → slice ≡ orders → ((rows : List Priced) (live : Live) → IsFoundAs slice rows live found → result ≡ only_lowers tick terms live) → result ≡ b
    → (rows : List Priced) (live : Live) → IsFoundAs orders rows live found → only_lowers tick terms live ≡ b
tested tick terms named result b slice orders same each is rows live found =
    sym (each rows live (subst (λ (os : List Order). IsFoundAs os rows live named) (sym same) found)) ∙ is

pub returns-then-lowers-clause-state : goal.returns-then-lowers-clause-state
returns-then-lowers-clause-state g c = λ live found.
    let same : c.deref.result.now ≡ c.args.parts.now.orders.items = search rules in
    let s : State = state_in g.E.Engine.buys g.E.Engine.sells c.args.parts.now in
    let e = tested c.args.tick c.args.terms.now c.args.named.found _ true c.deref.result.now c.args.parts.now.orders.items same c.lowers.ensures c.if-lowers.true _ live found in
    ap (λ (o : Outcome). o.state) (replace_lowers c.args.tick c.args.event.now.number c.args.named.copies.member c.args.named.copies.order c.args.named.copies.orig.id c.args.terms.now live s e) ∙ c.resize.ensures.state live found

pub returns-then-lowers-clause-reports : goal.returns-then-lowers-clause-reports
returns-then-lowers-clause-reports g c = λ live found.
    let same : c.deref.result.now ≡ c.args.parts.now.orders.items = search rules in
    let s : State = state_in g.E.Engine.buys g.E.Engine.sells c.args.parts.now in
    let e = tested c.args.tick c.args.terms.now c.args.named.found _ true c.deref.result.now c.args.parts.now.orders.items same c.lowers.ensures c.if-lowers.true _ live found in
    subst (λ (o : Outcome). Reports c.args.event.now c.args.parts.now.log.list 1 o.notices c.resize.new.parts.log.list c.resize.result)
    (sym (replace_lowers c.args.tick c.args.event.now.number c.args.named.copies.member c.args.named.copies.order c.args.named.copies.orig.id c.args.terms.now live s e)) (c.resize.ensures.reports live found)

pub returns-then-lowers-clause-entered : goal.returns-then-lowers-clause-entered
returns-then-lowers-clause-entered g c = λ live found.
    let same : c.deref.result.now ≡ c.args.parts.now.orders.items = search rules in
    let e = tested c.args.tick c.args.terms.now c.args.named.found _ true c.deref.result.now c.args.parts.now.orders.items same c.lowers.ensures c.if-lowers.true _ live found in
    rw e c.resize.ensures.entered

pub returns-else-lowers-clause-state : goal.returns-else-lowers-clause-state
returns-else-lowers-clause-state g c = λ live found.
    let same : c.deref.result.now ≡ c.args.parts.now.orders.items = search rules in
    let s : State = state_in g.E.Engine.buys g.E.Engine.sells c.args.parts.now in
    let e = tested c.args.tick c.args.terms.now c.args.named.found _ false c.deref.result.now c.args.parts.now.orders.items same c.lowers.ensures c.if-lowers.false _ live found in
    ap (λ (o : Outcome). o.state) (replace_enters c.args.tick c.args.event.now.number c.args.named.copies.member c.args.named.copies.order c.args.named.copies.orig.id c.args.terms.now live s e) ∙ c.reenter.ensures.state live found

pub returns-else-lowers-clause-reports : goal.returns-else-lowers-clause-reports
returns-else-lowers-clause-reports g c = λ live found.
    let same : c.deref.result.now ≡ c.args.parts.now.orders.items = search rules in
    let s : State = state_in g.E.Engine.buys g.E.Engine.sells c.args.parts.now in
    let e = tested c.args.tick c.args.terms.now c.args.named.found _ false c.deref.result.now c.args.parts.now.orders.items same c.lowers.ensures c.if-lowers.false _ live found in
    subst (λ (o : Outcome). Reports c.args.event.now c.args.parts.now.log.list 1 o.notices c.reenter.new.parts.log.list c.reenter.result)
    (sym (replace_enters c.args.tick c.args.event.now.number c.args.named.copies.member c.args.named.copies.order c.args.named.copies.orig.id c.args.terms.now live s e)) (c.reenter.ensures.reports live found)

pub returns-else-lowers-clause-entered : goal.returns-else-lowers-clause-entered
returns-else-lowers-clause-entered g c = λ live found.
    let same : c.deref.result.now ≡ c.args.parts.now.orders.items = search rules in
    let e = tested c.args.tick c.args.terms.now c.args.named.found _ false c.deref.result.now c.args.parts.now.orders.items same c.lowers.ensures c.if-lowers.false _ live found in
    rw (e, found.number) (c.reenter.ensures.entered live found)

pub returns-else-lowers-clause-most : goal.returns-else-lowers-clause-most
returns-else-lowers-clause-most g c = λ live found.
    let same : c.deref.result.now ≡ c.args.parts.now.orders.items = search rules in
    let e = tested c.args.tick c.args.terms.now c.args.named.found _ false c.deref.result.now c.args.parts.now.orders.items same c.lowers.ensures c.if-lowers.false _ live found in
    rw e (more _ _ _ (c.reenter.ensures.most live found))
  where
    more : (after before rest : ℕ) → after ≤ before + 512 + rest → after ≤ before + 2048 + rest
    more after before rest h = omega arith
