-- The lines so far stand there.
use Rattle.std.proofs.Common.{◌≡◌, ◌++◌, take}
use Rattle.audit_book.specs.Books.{row_lines}
use Rattle.audit_book.proofs.page.push_rows.Given as goal

abbrev pub invariant-loop-x : goal.invariant-loop-x
invariant-loop-x l = l.out.items ≡ l.initial.out.items ++ row_lines l.config l.journal l.best (take l.x-index l.rows)
