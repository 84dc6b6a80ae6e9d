use Rattle.std.proofs.Common.{take}
use Rattle.std.specs.List.{AllByRecursion}
use Rattle.peg_groups.specs.Flat.{IsThere}
use Rattle.peg_groups.proofs.flat.find.Given as goal

abbrev pub invariant-loop-i : goal.invariant-loop-i
invariant-loop-i l = AllByRecursion (λ place. IsThere l.key l.cap l.entry place → ⊥) (take l.i l.places)
