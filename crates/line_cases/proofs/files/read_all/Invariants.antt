use Rattle.std.proofs.Common.{◌≤◌, IsTrue}
use Rattle.line_cases.proofs.files.read_all.Given as goal

abbrev pub invariant-loop : goal.invariant-loop
invariant-loop g l = record {
  begun : IsTrue (g.H.Shelf.begun l.file);
  within : l.reader.bytes ≤ l.reader.most;
}
