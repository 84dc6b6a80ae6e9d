-- The desks so far stand in the table.
use Rattle.std.proofs.Common.{◌≡◌, ◌++◌, Some, map, length}
use Rattle.member_gate.proofs.desk_table.DeskTable.new.Given as goal

abbrev pub invariant-loop-desk : goal.invariant-loop-desk
invariant-loop-desk l = record {
  stand : l.all.items ≡ map Some l.yielded;
  left : l.fn.desks.items ≡ l.yielded ++ l.desk-iterator.rest.items;
  many : length l.desk-iterator.rest.items ≡ l.desk-iterator.rest.len;
}
