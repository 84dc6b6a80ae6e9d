use Rattle.std.proofs.Common.{ℕ, ◌∙◌, sym, ap}
use Rattle.std.specs.Prelude.{option_map}
use Rattle.eager_meaning.specs.declared.order.Order.{Order}
use Rattle.symbol_book.proofs.Numbers.{named_by_number, number_found}
use Rattle.symbol_book.proofs.finding.number_of.Goals as goal

pub returns-in-Some-clause-number : goal.returns-in-Some-clause-number
returns-in-Some-clause-number c =
    number_found c.args.id.now.member c.args.id.now.id c.args.orders.now _
    (c.number_here.ensures
    ∙ sym (ap (option_map (λ (found : ℕ × Order). found.0)) (named_by_number c.args.orders.now c.args.ids.now.entries c.args.id.now.member c.args.id.now.id _ c.requires.named (sym c.in-Some.is ∙ c.order.ensures))))

pub returns-in-None-clause-number : goal.returns-in-None-clause-number
returns-in-None-clause-number c =
    number_found c.args.id.now.member c.args.id.now.id c.args.orders.now _
    (sym (ap (option_map (λ (found : ℕ × Order). found.0)) (named_by_number c.args.orders.now c.args.ids.now.entries c.args.id.now.member c.args.id.now.id _ c.requires.named (sym c.in-None.is ∙ c.order.ensures))))
