use Rattle.std.proofs.Common.{◌≡◌, ◌++◌, ℕ, List, take}
use Rattle.live_core.specs.Lines.{kept, output}
use Rattle.journal_follow.proofs.following.work.Given as goal

-- all so far were taken
abbrev pub invariant-loop-line : goal.invariant-loop-line
invariant-loop-line g l = record {
  worked : (past : List (List ℕ)) → g.M.Machine.has_taken l.initial.machine past
      → (kept g.M.Machine.yields past (take l.line-index l.lines) ≡ take l.line-index l.lines)
      × (l.out.items ≡ l.initial.out.items ++ output g.M.Machine.yields past (take l.line-index l.lines))
      × g.M.Machine.has_taken l.machine (past ++ take l.line-index l.lines);
}
