-- The rows from the place on are there by price.
use Rattle.std.proofs.Common.{◌≡◌, ◌≤◌, ◌-◌, ◌*◌, ◌^◌, drop, length}
use Rattle.audit_queue.specs.Levels.{first_orders, first_shares, levels}
use Rattle.audit_queue.proofs.levels.levels_of.Given as goal

abbrev pub invariant-loop-place : goal.invariant-loop-place
invariant-loop-place l = record {
  within : l.place ≤ length l.rows;
  levels : l.found.items ≡ levels (drop l.place l.rows);
  orders : first_orders l.found.items ≤ length l.rows - l.place;
  shares : first_shares l.found.items ≤ (length l.rows - l.place) * 2 ^ 32;
}

abbrev pub decreases-loop-place : goal.decreases-loop-place
decreases-loop-place l = l.place
