-- The lines so far stand there.
use Rattle.std.proofs.Common.{◌≡◌, ◌++◌, take}
use Rattle.audit_book.specs.Books.{level_lines}
use Rattle.audit_book.proofs.page.push_levels.Given as goal

abbrev pub invariant-loop-level : goal.invariant-loop-level
invariant-loop-level l = l.out.items ≡ l.initial.out.items ++ level_lines (take l.level-index l.levels)
