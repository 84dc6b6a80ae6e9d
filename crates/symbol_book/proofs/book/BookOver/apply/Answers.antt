use Rattle.std.proofs.Common.{◌≡◌, ◌+◌, ◌<◌, ◌≤◌, ◌∙◌, Some, true, length, sym, ap, subst, arith}
use Rattle.symbol_book.specs.Book.{BookView}
use Rattle.symbol_book.specs.Commands.{id_bytes, takes_command, key_for}
use Rattle.symbol_book.proofs.Fits.{can_work}
use Rattle.symbol_book.proofs.Keeping.{kept_next, keeps_orders, few_orders, reports_next}
use Rattle.symbol_book.proofs.book.BookOver.apply.Goals as goal

pub work-requires-clause-fits : goal.work-requires-clause-fits
work-requires-clause-fits g c =
    let kept = c.self.invariant.0 in
    let takes : takes_command (length c.self.inside.parts.markets) c.args.event.command ≡ true = subst (λ (v : BookView). takes_command v.markets c.args.event.command ≡ true) (sym c.self.view_is) c.requires.takes in
    let next : c.args.event.number ≡ length c.self.inside.journal.items + 1 = c.requires.number ∙ ap (λ (v : BookView). length v.journal + 1) (sym c.self.view_is) in
    let short : id_bytes c.args.event.command ≤ c.self.inside.parts.orders.longest = subst (λ (v : BookView). id_bytes c.args.event.command ≤ v.longest) (sym c.self.view_is) c.requires.longest in
    (short, can_work c.quote_trades_fit.ensures c.new_trades_fit.ensures c.replace_trades_fit.ensures _ _ _ kept.numbered _ c.args.event.number c.args.event.command kept.state next takes)

pub work-requires-clause-agree : goal.work-requires-clause-agree
work-requires-clause-agree g c =
    let kept = c.self.invariant.0 in
    let few = few_orders _ _ _ _ _ _ _ _ _ _ _ _ kept c.book_is_sound.ensures in
    record {
      quote = kept.quote;
      kept = keeps_orders _ _ _ _ _ _ _ _ _ _ _ _ kept c.rows_stand.ensures;
      few_orders = omega (arith, few.0, few.1, kept.short, kept.limits);
      few = omega (arith, few.0, few.1, kept.short, kept.limits);
    }

pub work-requires-clause-narrow : goal.work-requires-clause-narrow
work-requires-clause-narrow g c =
    let is_ready : c.self.inside.ready ≡ Some (key_for c.self.inside.tick c.args.event.command) =
    ap (λ (v : BookView). v.ready) c.self.view_is ∙ (c.requires.ready ∙ ap (λ (v : BookView). Some (key_for v.tick c.args.event.command)) (sym c.self.view_is)) in
    (c.self.invariant.1 _ is_ready).3

pub work-requires-clause-places : goal.work-requires-clause-places
work-requires-clause-places g c =
    let is_ready : c.self.inside.ready ≡ Some (key_for c.self.inside.tick c.args.event.command) =
    ap (λ (v : BookView). v.ready) c.self.view_is ∙ (c.requires.ready ∙ ap (λ (v : BookView). Some (key_for v.tick c.args.event.command)) (sym c.self.view_is)) in
    (c.self.invariant.1 _ is_ready).1

pub push_reserved-requires : goal.push_reserved-requires
push_reserved-requires g c =
    let is_ready : c.self.inside.ready ≡ Some (key_for c.self.inside.tick c.args.event.command) =
    ap (λ (v : BookView). v.ready) c.self.view_is ∙ (c.requires.ready ∙ ap (λ (v : BookView). Some (key_for v.tick c.args.event.command)) (sym c.self.view_is)) in
    (c.self.invariant.1 _ is_ready).2

pub invariant_of-self : goal.invariant_of-self
invariant_of-self g c =
    let next : c.args.event.number ≡ length c.self.inside.journal.items + 1 = c.requires.number ∙ ap (λ (v : BookView). length v.journal + 1) (sym c.self.view_is) in
    let below : length c.self.inside.journal.items < c.self.inside.limit = subst (λ (v : BookView). length v.journal < v.limit) (sym c.self.view_is) c.requires.below in (
      rw c.push_reserved.ensures.items
          (kept_next _ _ _ _ _ _ _ _ _ _ _ _ c.args.event _ _ _ _ _ _ _ _ _ _ c.self.invariant.0 c.work.ensures.count c.work.ensures.worked c.work.ensures.best c.work.ensures.latest c.work.ensures.small c.work.ensures.settled next below),
      λ key e. cc,
    )

pub returns-clause-most : goal.returns-clause-most
returns-clause-most g c = rw (← c.self.view_is, c.self.invariant.0.state) c.work.ensures.most

pub returns-clause-reports : goal.returns-clause-reports
returns-clause-reports g c =
    let kept = c.self.invariant.0 in
    rw (← c.self.view_is) (sym (reports_next _ _ _ _ _ _ _ _ kept.state kept.reports c.work.ensures.worked.reports))
