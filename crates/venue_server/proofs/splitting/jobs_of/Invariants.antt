-- So many floors were made, for the first inboxes.
use Rattle.std.proofs.Common.{◌≡◌, ◌+◌, ◌-◌, ◌≤◌, ◌++◌, length, map, vec_len}
use Rattle.std.specs.Prelude.{vec_capacity}
use Rattle.std.specs.List.{All, range_with_len}
use Rattle.turn_gate.specs.Rule.{whole}
use Rattle.venue_server.specs.Seating.{HasSeats}
use Rattle.venue_server.proofs.splitting.jobs_of.Given as goal

abbrev pub invariant-loop-inbox : goal.invariant-loop-inbox
invariant-loop-inbox g l =
    HasSeats l.venue (whole - length l.yielded) l.seats
    × (length l.jobs.items ≡ length l.yielded)
    × All (λ job. (job.floor.venue.now ≡ l.venue) × HasSeats l.venue 1 job.floor.seats) l.jobs.items
    × (l.fn.inboxes.items ≡ l.yielded ++ l.inbox-iterator.rest.items)
    × (length l.inbox-iterator.rest.items ≡ l.inbox-iterator.rest.len)
    × (map (λ job. job.number) l.jobs.items ≡ range_with_len 0 (length l.yielded))
    × (map (λ job. job.inbox) l.jobs.items ≡ l.yielded)
    × (vec_len l.jobs + length l.inbox-iterator.rest.items ≤ vec_capacity l.jobs)
