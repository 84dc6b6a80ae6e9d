use Rattle.std.proofs.Common.{◌≡◌, take}
use Rattle.std.specs.List.{AllByRecursion}
use Rattle.peg_groups.specs.Flat.{place_standing}
use Rattle.peg_groups.specs.Side.{standing_of}
use Rattle.peg_groups.proofs.flat.find_kept.Given as goal

abbrev pub invariant-loop-i : goal.invariant-loop-i
invariant-loop-i l = AllByRecursion (λ place. place_standing place ≡ standing_of (record { row = l.row; value = l.value; time = l.time }) → ⊥) (take l.i l.places)
