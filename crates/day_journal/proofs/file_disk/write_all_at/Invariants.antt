use Rattle.std.proofs.Common.{length, ◌-◌, ◌≡◌, ◌≤◌, true, take}
use Rattle.day_journal.specs.Disk.{LeavesOnly, TornFrom, overwritten}
use Rattle.day_journal.proofs.file_disk.write_all_at.Given as goal

abbrev pub invariant-loop-done : goal.invariant-loop-done
invariant-loop-done g l = record {
  within : l.done ≤ length l.bytes;
  hold : g.C.FileCalls.hold l.calls ≡ g.C.FileCalls.hold l.initial.calls;
  name : g.C.FileCalls.file_name l.calls ≡ g.C.FileCalls.file_name l.initial.calls;
  honest : (g.C.FileCalls.told l.calls).honest ≡ (g.C.FileCalls.told l.initial.calls).honest;
  written : (g.C.FileCalls.told l.initial.calls).honest ≡ true
      → (g.C.FileCalls.told l.calls).seen ≡ overwritten (g.C.FileCalls.told l.initial.calls).seen l.at (take l.done l.bytes);
  crash : (g.C.FileCalls.told l.initial.calls).honest ≡ true
      → LeavesOnly (g.C.FileCalls.told l.initial.calls) (g.C.FileCalls.told l.calls) (TornFrom l.at (length l.bytes) (g.C.FileCalls.told l.initial.calls).may_leave);
}

abbrev pub decreases-loop-done : goal.decreases-loop-done
decreases-loop-done g l = length l.bytes - l.done
