-- The parts so far, and those that are left.
use Rattle.std.proofs.Common.{◌≡◌, ◌+◌, ◌-◌, ◌≤◌, ◌++◌, length, map, take, vec_len}
use Rattle.std.specs.Prelude.{vec_capacity}
use Rattle.session_core.specs.MessageLists.{moved}
use Rattle.session_core.proofs.message_list.push_moved.Given as goal

abbrev pub invariant-loop-part : goal.invariant-loop-part
invariant-loop-part l = record {
  items : l.parts.items ≡ l.fn.parts.items ++ map (moved l.front) (take l.part-index l.more);
  room : vec_len l.parts + (length l.more - l.part-index) ≤ vec_capacity l.parts;
}
