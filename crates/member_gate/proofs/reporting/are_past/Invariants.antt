-- No symbol so far that is asked has more reports than were gone through.
use Rattle.std.proofs.Common.{◌≡◌, ℕ, ◌<◌, ◌≤◌, true, slice_index}
use Rattle.member_gate.specs.Reporting.{cursor_at, asked_at}
use Rattle.member_gate.proofs.reporting.are_past.Given as goal

abbrev pub invariant-loop-symbol : goal.invariant-loop-symbol
invariant-loop-symbol l = record {
  none : (symbol : ℕ) → symbol < l.symbol → asked_at l.awaited.asked.now symbol ≡ true
      → slice_index l.awaited.fronts.now symbol ≤ cursor_at l.cursors symbol;
}
