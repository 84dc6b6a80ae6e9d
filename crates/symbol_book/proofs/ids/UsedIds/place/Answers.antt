use Rattle.std.proofs.Common.{◌≡◌, ◌∙◌, ◌<◌, ap, sym, subst}
use Rattle.std.specs.Prelude.{map}
use Rattle.eager_meaning.specs.Orders.{is_used}
use Rattle.indexmap.specs.IndexMap.{spare}
use Rattle.symbol_book.specs.Ids.{IdList, used_of, same_id}
use Rattle.symbol_book.proofs.UsedNames.{entry_for, held_is_used, same_id_swaps, settled_is, same_kept, one_placed, some_placed, room_kept}
use Rattle.symbol_book.proofs.ids.UsedIds.place.Goals as goal

pub put-used-requires : goal.put-used-requires
put-used-requires c =
    let is = settled_is c.self.inside.placed c.self.inside.index.entries _ c.args.self.now c.self.invariant c.self.view_is c.requires.settled in
    record { room = subst (λ (l : IdList). 0 < l.room) (sym is) c.requires.room }

pub invariant_of-self : goal.invariant_of-self
invariant_of-self c = some_placed c.self.inside.index c.args.id c.args.order c.put-used.result c.put-used.new.index.entries 0 c.put-used.ensures.found c.put-used.ensures.same c.put-used.ensures.one

pub returns-clause-used : goal.returns-clause-used
returns-clause-used c =
    let is = settled_is c.self.inside.placed c.self.inside.index.entries _ c.args.self.now c.self.invariant c.self.view_is c.requires.settled in
    c.put-used.ensures.found
    ∙ (held_is_used same_id same_id_swaps c.args.id c.self.inside.index.entries
    ∙ ap (λ (l : IdList). is_used c.args.id.member c.args.id.id (used_of l.entries)) is)

pub returns-clause-entries : goal.returns-clause-entries
returns-clause-entries c =
    let is = settled_is c.self.inside.placed c.self.inside.index.entries _ c.args.self.now c.self.invariant c.self.view_is c.requires.settled in
    same_kept c.self.inside.index c.args.id c.args.order c.put-used.result c.put-used.new.index.entries _ c.put-used.ensures.found c.put-used.ensures.same c.put-used.ensures.one
    ∙ ap (λ (l : IdList). l.entries) is

pub returns-clause-placed : goal.returns-clause-placed
returns-clause-placed c = one_placed c.self.inside.index c.args.id c.args.order c.put-used.result c.put-used.new.index.entries _ c.put-used.ensures.found c.put-used.ensures.same c.put-used.ensures.one

pub returns-clause-room : goal.returns-clause-room
returns-clause-room c =
    let is = settled_is c.self.inside.placed c.self.inside.index.entries _ c.args.self.now c.self.invariant c.self.view_is c.requires.settled in
    let room : c.args.self.now.room ≡ spare c.self.inside.index = sym (ap (λ (l : IdList). l.room) is) in
    rw room (room_kept c.put-used.result (map entry_for c.put-used.new.index.entries) _ _ c.put-used.ensures.spare)
