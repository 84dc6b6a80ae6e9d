use Rattle.std.proofs.Common.{◌≡◌, ◌<◌, ◌+◌, ◌∙◌, Some, refl, arith, slice_get}
use Rattle.std.proofs.lemmas.Option.{slice_get_read}
use Rattle.std.proofs.lemmas.Grind.{common_steps}
use Rattle.io_edge.specs.declared.mem_link.LinkItem.TheVariants.{Piece}
use Rattle.io_edge.proofs.Given.{tail_of, gives_part, gives_rest}
use Rattle.io_edge.proofs.mem_link.give.Goals as goal

pub returns-then-count-rest-clause-gives : goal.returns-then-count-rest-clause-gives
returns-then-count-rest-clause-gives c =
    let rest = tail_of c.deref.result.now c.in-Some-Piece.bytes.items c.args.spot.at c.deref.ensures.value in
    let here = slice_get_read c.args.items.now _ c.args.spot.item c.in-Some-Piece.field-0.now refl
    (omega (arith, c.in-Some-Piece.ensures.lookup.3.0)) c.in-Some-Piece.ensures.lookup.1 in
    let item : slice_get c.args.items.now c.args.spot.item ≡ Some (Piece c.in-Some-Piece.bytes)
    = here ∙ rw c.in-Some-Piece.field-0-is refl in
    let behind : c.saturating_add.result ≡ c.args.spot.item + 1 = grind (arith, common_steps) in
    let some : 0 < c.copy_front-count.result = grind (arith, common_steps) in
    rw (c.new-then-count-rest.ensures, behind) (gives_rest c.args.items.now c.args.spot.item c.args.spot.at
    c.copy_front-count.result c.in-Some-Piece.bytes _ _ item rest c.copy_front-count.ensures.bytes
    c.if-count-rest.true some)

pub returns-else-count-rest-clause-gives : goal.returns-else-count-rest-clause-gives
returns-else-count-rest-clause-gives c =
    let rest = tail_of c.deref.result.now c.in-Some-Piece.bytes.items c.args.spot.at c.deref.ensures.value in
    let here = slice_get_read c.args.items.now _ c.args.spot.item c.in-Some-Piece.field-0.now refl
    (omega (arith, c.in-Some-Piece.ensures.lookup.3.0)) c.in-Some-Piece.ensures.lookup.1 in
    let item : slice_get c.args.items.now c.args.spot.item ≡ Some (Piece c.in-Some-Piece.bytes)
    = here ∙ rw c.in-Some-Piece.field-0-is refl in
    rw c.new-in-Some-Piece.ensures (gives_part c.args.items.now c.args.spot.item c.args.spot.at
    c.copy_front-count.result c.in-Some-Piece.bytes _ _ item rest c.copy_front-count.ensures.bytes
    (omega (arith, c.copy_front-count.ensures.count, c.if-count-rest.false)))
