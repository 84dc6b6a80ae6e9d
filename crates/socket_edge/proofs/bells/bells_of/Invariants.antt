-- One inbox was made for each link so far.
use Rattle.std.proofs.Common.{◌≡◌, length}
use Rattle.socket_edge.proofs.bells.bells_of.Given as goal

abbrev pub invariant-loop-link : goal.invariant-loop-link
invariant-loop-link l = length l.inboxes.items ≡ l.link
