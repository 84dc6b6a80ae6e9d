-- The frames so far, and those of the messages that are left.
use Rattle.std.proofs.Common.{◌≡◌, ◌+◌, ◌++◌, drop}
use Rattle.session_core.specs.Frames.{new_frames}
use Rattle.session_core.proofs.frames.push_new_frames.Given as goal

abbrev pub invariant-loop-message : goal.invariant-loop-message
invariant-loop-message l = record {
  counted : l.number ≡ l.first + l.message-index;
  framed : l.frames.items ++ new_frames l.member l.moment l.number (drop l.message-index l.messages)
      ≡ l.fn.frames.items ++ new_frames l.member l.moment l.first l.messages;
}
