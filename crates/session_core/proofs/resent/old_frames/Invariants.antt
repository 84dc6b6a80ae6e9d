-- The frames so far, and those of the entries that are left.
use Rattle.std.proofs.Common.{◌≡◌, ◌+◌, ◌-◌, ◌++◌, drop, take, None}
use Rattle.session_core.specs.Resent.{frames_from, part_of}
use Rattle.session_core.proofs.resent.old_frames.Given as goal

abbrev pub invariant-loop-index : goal.invariant-loop-index
invariant-loop-index l = record {
  counted : l.number ≡ l.fn.span.first + (l.index - l.begin);
  framed : l.frames.items ++ frames_from l.member l.moment l.run l.number (drop l.index (take l.fn.span.last l.sent))
      ≡ frames_from l.member l.moment None l.fn.span.first (part_of l.sent l.fn.span);
}
