-- The places so far and those that are left, and room for these.
use Rattle.std.proofs.Common.{◌≡◌, ◌+◌, ◌-◌, ◌≤◌, ◌++◌, vec_len}
use Rattle.std.specs.Prelude.{vec_capacity, replicate}
use Rattle.session_core.specs.Sent.{places_from}
use Rattle.session_core.proofs.sent.push_places.Given as goal

abbrev pub invariant-loop-i : goal.invariant-loop-i
invariant-loop-i l = record {
  places : l.places.items ++ places_from (l.first + l.i) (l.count - l.i) ≡ l.fn.places.items ++ places_from l.first l.count;
  moments : l.moments.items ++ replicate (l.count - l.i) l.moment ≡ l.fn.moments.items ++ replicate l.count l.moment;
  room : vec_len l.places + (l.count - l.i) ≤ vec_capacity l.places;
  room_of_moments : vec_len l.moments + (l.count - l.i) ≤ vec_capacity l.moments;
}
