use Rattle.std.proofs.Common.{◌≡◌, ◌+◌, [], take}
use Rattle.live_core.specs.Lines.{kept}
use Rattle.live_core.proofs.machine.resume.Given as goal

-- all so far were taken
abbrev pub invariant-loop-line : goal.invariant-loop-line
invariant-loop-line g l = record {
  has_taken : g.M.Machine.has_taken l.machine (take l.line-index l.lines);
  kept : kept g.M.Machine.yields [] (take l.line-index l.lines) ≡ take l.line-index l.lines;
  number : l.number ≡ l.line-index + 1;
}
