-- So many floors were made, for the first feeds.
use Rattle.std.proofs.Common.{◌≡◌, ◌-◌, ◌++◌, length, map}
use Rattle.std.specs.List.{All}
use Rattle.turn_gate.specs.Rule.{whole}
use Rattle.feeds_core.specs.Joined.{AreIdleSeats}
use Rattle.feeds_core.proofs.splitting.shares_of.Given as goal

abbrev pub invariant-loop-commands : goal.invariant-loop-commands
invariant-loop-commands g l =
    AreIdleSeats l.venue (whole - length l.yielded) l.seats
    × (map (λ share. share.1.items) l.shares.items ≡ map (λ commands. commands.items) l.yielded)
    × All (λ share. (share.0.venue.now ≡ l.venue) × AreIdleSeats l.venue 1 share.0.seats) l.shares.items
    × (l.fn.feeds.items ≡ l.yielded ++ l.commands-iterator.rest.items)
    × (length l.commands-iterator.rest.items ≡ l.commands-iterator.rest.len)
