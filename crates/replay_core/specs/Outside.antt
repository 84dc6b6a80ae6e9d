-- What is seen of a shelf, of sinks and of a count of steps, before a call or behind it.
use Rattle.std.specs.Prelude.{ℕ, Bool, List, Option}
use Rattle.io_edge.specs.Files.{Files}

-- a shelf's files, what is left of the one that was begun, how often a call failed, and whether the shelf is sure
pub record ShelfSeen : Type 0 where
  pub told : Option Files
  pub left : Option (List ℕ)
  pub faults : ℕ
  pub sure : Bool

-- a sink, its bytes, those of them that wait to be written, and how often a call failed
pub record SinkSeen (S : Type 0) : Type 0 where
  pub sink : S
  pub told : Option (List ℕ)
  pub waiting : List ℕ
  pub faults : ℕ

-- all that a run changes: the shelf, the sink of its output, the one of its status, and the steps that were counted
pub record RunSeen (K E : Type 0) : Type 0 where
  pub shelf : ShelfSeen
  pub out : SinkSeen K
  pub err : SinkSeen E
  pub steps : ℕ

abbrev pub shelf_seen : {H : Type 0} → (H → Option Files) → (H → Option (List ℕ)) → (H → ℕ) → (H → Bool) → H → ShelfSeen
shelf_seen told left faults sure shelf = record { told = told shelf; left = left shelf; faults = faults shelf; sure = sure shelf }

abbrev pub sink_seen : {S : Type 0} → (S → Option (List ℕ)) → (S → List ℕ) → (S → ℕ) → S → SinkSeen S
sink_seen told waiting faults sink = record { sink = sink; told = told sink; waiting = waiting sink; faults = faults sink }

abbrev pub run_seen : {K E : Type 0} → ShelfSeen → SinkSeen K → SinkSeen E → ℕ → RunSeen K E
run_seen shelf out err steps = record { shelf = shelf; out = out; err = err; steps = steps }
