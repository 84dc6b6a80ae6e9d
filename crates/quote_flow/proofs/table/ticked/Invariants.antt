-- What the slots that are left make comes after what was made.
use Rattle.std.proofs.Common.{◌≡◌, ◌++◌, drop}
use Rattle.quote_flow.specs.Tables.{slots_ticked, passed_ticked}
use Rattle.quote_flow.proofs.table.ticked.Given as goal

abbrev pub invariant-loop-slot : goal.invariant-loop-slot
invariant-loop-slot l = record {
  slots : slots_ticked l.pace l.moment l.slots
      ≡ l.next.items ++ slots_ticked l.pace l.moment (drop l.slot-index l.slots);
  passed : l.initial.out.items ++ passed_ticked l.pace l.moment l.slots
      ≡ l.out.items ++ passed_ticked l.pace l.moment (drop l.slot-index l.slots);
}
