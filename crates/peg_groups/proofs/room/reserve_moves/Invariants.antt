use Rattle.std.proofs.Common.{◌≡◌, ◌<◌, length}
use Rattle.peg_groups.specs.Groups.{PairedUpTo, EachUpTo, IsRoomier}
use Rattle.peg_groups.proofs.room.reserve_moves.Given as goal

-- the groups so far have room, and the others are as they were
abbrev pub invariant-loop-i : goal.invariant-loop-i
invariant-loop-i l = record {
  kept : PairedUpTo (λ _ old new. IsRoomier old new) l.i l.initial.groups.entries l.groups.entries;
  ends : l.i-end ≡ length l.initial.groups.entries;
  room : EachUpTo (λ _ group. 0 < group.moves.room) l.i l.groups.entries;
}
