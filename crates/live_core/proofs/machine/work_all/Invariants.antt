use Rattle.std.proofs.Common.{◌≡◌, ◌≤◌, ◌+◌, ◌++◌, ℕ, List, All, length}
use Rattle.day_journal.specs.Log.{IsShortLine}
use Rattle.live_core.specs.Lines.{kept, output}
use Rattle.live_core.proofs.machine.work_all.Given as goal

-- what was taken and what it yields, and then the rest
abbrev pub invariant-loop-line : goal.invariant-loop-line
invariant-loop-line g l = record {
  worked : (past : List (List ℕ)) → g.M.Machine.has_taken l.initial.machine past
      → (l.taken.items ++ kept g.M.Machine.yields (past ++ l.taken.items) l.line-iterator.rest.items ≡ kept g.M.Machine.yields past l.fn.lines.items)
      × (l.out.items ++ output g.M.Machine.yields (past ++ l.taken.items) l.line-iterator.rest.items ≡ l.initial.out.items ++ output g.M.Machine.yields past l.fn.lines.items)
      × g.M.Machine.has_taken l.machine (past ++ l.taken.items);
  taken : All IsShortLine l.taken.items;
  rest : All IsShortLine l.line-iterator.rest.items;
  few : length l.taken.items + length l.line-iterator.rest.items ≤ length l.fn.lines.items;
  len : length l.line-iterator.rest.items ≡ l.line-iterator.rest.len;
}
