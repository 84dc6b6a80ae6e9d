use Rattle.std.proofs.Common.{◌≤◌, sym, subst, arith, rules}
use Rattle.venue_words.specs.declared.limits.TheConstants.{MAX_ID_BYTES}
use Rattle.symbol_book.proofs.Fits.{id_within}
use Rattle.symbol_book.proofs.Keeping.{few_orders}
use Rattle.symbol_book.proofs.book.BookOver.prepare.Goals as goal

-- no more rows rest than there are events
pub make_room-made-requires-clause-rows : goal.make_room-made-requires-clause-rows
make_room-made-requires-clause-rows g c =
    let few = few_orders _ _ _ _ _ _ _ _ _ _ _ _ c.self.invariant.0 c.book_is_sound.ensures in
    omega (arith, c.len-rows.ensures, few.0, few.1, c.self.invariant.0.short, c.self.invariant.0.limits)

-- a command that is taken has short ids
pub make_room-made-requires-clause-bytes : goal.make_room-made-requires-clause-bytes
make_room-made-requires-clause-bytes g c =
    subst (λ n. n ≤ MAX_ID_BYTES) (sym c.id_bytes-bytes.ensures) (id_within _ c.args.command.now c.requires.takes)

pub returns-then-len-self-clause-full : goal.returns-then-len-self-clause-full
returns-then-len-self-clause-full g c = search rules
