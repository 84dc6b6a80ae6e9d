use Rattle.std.proofs.Common.{◌≡◌, ◌∙◌, ◌++◌, ap, refl}
use Rattle.std.specs.Prelude.{map}
use Rattle.std.proofs.lemmas.List.{map-append}
use Rattle.symbol_book.specs.Ids.{UsedId, IdList, used_of}
use Rattle.symbol_book.proofs.UsedNames.{entry_for, all_ids}
use Rattle.symbol_book.proofs.ids.UsedIds.keep.Goals as goal

pub returns : goal.returns
returns c =
    let entries : map entry_for c.self.inside.index.entries ≡ c.args.self.now.entries ++ c.args.self.now.placed =
    all_ids c.self.inside.placed (map entry_for c.self.inside.index.entries) _ ∙ ap (λ (l : IdList). l.entries ++ l.placed) c.self.view_is in
    record {
      entries = entries;
      used = ap used_of entries ∙ map-append (λ (e : UsedId). (e.member, e.id)) c.args.self.now.entries c.args.self.now.placed;
      settled = refl;
    }
