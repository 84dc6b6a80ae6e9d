use Rattle.std.proofs.Common.{◌≡◌, ◌+◌, ◌<◌, length}
use Rattle.std.specs.Option.{IfSome}
use Rattle.peg_groups.specs.Flat.{BestPlaceUpTo}
use Rattle.peg_groups.proofs.flat_best.best_place.Given as goal

abbrev pub invariant-loop-i : goal.invariant-loop-i
invariant-loop-i g l = record {
  best : BestPlaceUpTo l.places l.i l.best;
  bound : IfSome l.best (λ j. j < length l.places);
  ticks : l.steps ≡ l.fn.steps + l.i;
}
