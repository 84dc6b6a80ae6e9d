-- Each desk stands at its own member.
use Rattle.std.proofs.Common.{◌≡◌, List, [], ◌∷◌, ◌++◌, length, Some, map, refl, sym, ◌∙◌, ap, subst, arith, append-nil}
use Rattle.member_gate.specs.Desks.{DeskView, AreOwn}
use Rattle.member_gate.proofs.Standing.{own_in_order}
use Rattle.member_gate.proofs.desk_table.DeskTable.new.Goals as goal

empty : (desks : List DeskView) → length desks ≡ 0 → desks ≡ []
empty [] e = refl
empty (desk ∷ desks) e = absurd (omega arith)

pub invariant_of-result : goal.invariant_of-result
invariant_of-result c =
    let loop = c.loop-desk in
    let many = loop.invariant.many in
    let none : length loop.desk-iterator.rest.items ≡ 0 = let steps = c.in-None.ensures.steps in grind arith in
    let all : c.args.desks.items ≡ loop.yielded =
    loop.invariant.left ∙ ap (λ (ds : List DeskView). loop.yielded ++ ds) (empty loop.desk-iterator.rest.items none) ∙ append-nil loop.yielded in
    subst AreOwn (ap (λ (ds : List DeskView). map Some ds) all ∙ sym loop.invariant.stand) (own_in_order c.args.desks.items c.requires)
