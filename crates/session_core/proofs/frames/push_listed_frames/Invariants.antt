-- The frames so far, and those of the messages that are left.
use Rattle.std.proofs.Common.{◌≡◌, ◌+◌, ◌++◌, drop}
use Rattle.session_core.specs.Frames.{new_frames}
use Rattle.session_core.proofs.frames.push_listed_frames.Given as goal

abbrev pub invariant-loop-place : goal.invariant-loop-place
invariant-loop-place l = record {
  counted : l.number ≡ l.first + l.place;
  framed : l.frames.items ++ new_frames l.member l.moment l.number (drop l.place l.messages)
      ≡ l.fn.frames.items ++ new_frames l.member l.moment l.first l.messages;
}
