-- A desk was made for each member so far.
use Rattle.std.proofs.Common.{◌≡◌, map}
use Rattle.std.specs.List.{range_with_len}
use Rattle.member_gate.specs.Desks.{fresh_desk}
use Rattle.member_gate.proofs.desks.desks_of.Given as goal

abbrev pub invariant-loop-number : goal.invariant-loop-number
invariant-loop-number l = l.desks.items ≡ map (fresh_desk l.config) (range_with_len 0 l.number)
