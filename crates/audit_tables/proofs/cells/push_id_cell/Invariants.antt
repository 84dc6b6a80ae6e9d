-- The bytes so far stand there.
use Rattle.std.proofs.Common.{◌≡◌, ◌++◌, take}
use Rattle.audit_tables.specs.Cells.{id_text}
use Rattle.audit_tables.proofs.cells.push_id_cell.Given as goal

abbrev pub invariant-loop-byte : goal.invariant-loop-byte
invariant-loop-byte l = l.out.items ≡ l.initial.out.items ++ id_text (take l.byte-index l.id)
