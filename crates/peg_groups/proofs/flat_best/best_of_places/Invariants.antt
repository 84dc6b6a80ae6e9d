use Rattle.std.proofs.Common.{◌≡◌, ◌+◌, map, take}
use Rattle.peg_groups.specs.BestValue.{highest_of}
use Rattle.peg_groups.specs.Flat.{place_value}
use Rattle.peg_groups.proofs.flat_best.best_of_places.Given as goal

-- the greatest value of the places so far
abbrev pub invariant-loop-i : goal.invariant-loop-i
invariant-loop-i g l = record {
  best : l.best ≡ highest_of (take l.i (map place_value l.places));
  ticks : l.steps ≡ l.initial.steps + l.i;
}
