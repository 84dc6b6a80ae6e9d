use Rattle.std.proofs.Common.{◌≡◌, ◌+◌, ◌++◌, map, take, drop}
use Rattle.peg_groups.specs.Flat.{repriced}
use Rattle.peg_groups.proofs.flat.reprice_in.Given as goal

abbrev pub invariant-loop-place : goal.invariant-loop-place
invariant-loop-place g l = record {
  changed : l.places ≡ map (repriced l.event l.best) (take l.place-index l.fn.places) ++ drop l.place-index l.fn.places;
  ticks : l.steps ≡ l.fn.steps + l.place-index;
}
