use Rattle.std.proofs.Common.{◌∙◌, ap}
use Rattle.std.specs.Prelude.{option_map}
use Rattle.symbol_book.specs.Ids.{IdList, entry_of}
use Rattle.symbol_book.proofs.UsedNames.{order_is, settled_is}
use Rattle.symbol_book.proofs.ids.UsedIds.order.Goals as goal

pub returns : goal.returns
returns c =
    c.copied.ensures
    ∙ (c.get.ensures.value
    ∙ (order_is c.args.id.now c.self.inside.index.entries
    ∙ ap (λ (l : IdList). option_map (λ e. e.order) (entry_of c.args.id.now.member c.args.id.now.id l.entries))
    (settled_is c.self.inside.placed c.self.inside.index.entries _ c.args.self.now c.self.invariant c.self.view_is c.requires)))
