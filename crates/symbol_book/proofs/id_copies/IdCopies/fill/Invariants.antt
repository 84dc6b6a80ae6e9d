use Rattle.std.proofs.Common.{◌≡◌, ◌-◌, ◌≤◌, All, vec_len}
use Rattle.symbol_book.specs.Buffers.{IsIdBuffer}
use Rattle.symbol_book.proofs.id_copies.IdCopies.fill.Given as goal

-- the buffers are ready, and there are as many as before or more
abbrev pub invariant-loop-alloc : goal.invariant-loop-alloc
invariant-loop-alloc l =
    All IsIdBuffer l.self-inside.buffers.items
    × (vec_len l.initial.self-inside.buffers ≤ vec_len l.self-inside.buffers)
    × (l.self-inside.count ≡ l.initial.self-inside.count)
    × (l.self-inside.long ≡ l.initial.self-inside.long)

-- those that are missing
abbrev pub decreases-loop-alloc : goal.decreases-loop-alloc
decreases-loop-alloc l = l.count - vec_len l.self-inside.buffers
