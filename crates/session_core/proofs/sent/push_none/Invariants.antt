-- So many places, and room for the rest.
use Rattle.std.proofs.Common.{◌≡◌, ◌+◌, ◌-◌, ◌≤◌, ◌++◌, vec_len}
use Rattle.std.specs.Prelude.{vec_capacity}
use Rattle.session_core.specs.Sent.{no_places}
use Rattle.session_core.proofs.sent.push_none.Given as goal

abbrev pub invariant-loop-i : goal.invariant-loop-i
invariant-loop-i l = record {
  items : l.places.items ≡ l.fn.places.items ++ no_places l.i;
  room : vec_len l.places + (l.count - l.i) ≤ vec_capacity l.places;
}
