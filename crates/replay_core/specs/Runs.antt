-- What a run comes to, by its words and the files of its shelf.
use Rattle.std.specs.Prelude.{◌≡◌, ◌≢◌, ◌⊎◌, ℕ, List, [], Option, Some, None, IfSome, IsTrue}
use Rattle.io_edge.specs.Faults.{IsCausedOrUntold, faults}
use Rattle.io_edge.specs.Files.{Files, HasFile}
use Rattle.replay_core.specs.Causes.{script_named, script_told, LacksScript}
use Rattle.replay_core.specs.Loading.{Loaded}
use Rattle.replay_core.specs.Outside.{RunSeen}
use Rattle.replay_core.specs.Plan.{Load, plan_of}
use Rattle.replay_core.specs.Statuses.{IsTold}
use Rattle.replay_core.specs.Telling.{Seen, Ran, seen}
use Rattle.replay_core.specs.declared.status.Status.{Status}
use Rattle.replay_core.specs.declared.status.Status.TheVariants.{Done, BadWords, ReadFault, WriteFault, NoMemory}

-- the status with which a run ends, what was put by then, and the steps that were counted
pub record Ends (told : Option Files) (words : List (List ℕ)) (left : Option (List ℕ)) (old new : Seen) (status : Status) : Type 0 where
  -- the output, why it ended, and the steps: what the script's bytes make, wherever the reads were cut
  pub script : IfSome (script_told told words) (λ bytes. Ran bytes old new left status)
  -- for a load run, what the load script makes: one line, why it is not there, and the steps
  pub load : (orders quotes : ℕ) → plan_of words ≡ Some (Load orders quotes) → Loaded orders quotes old new status
  -- words of another form, and a script that is not there: nothing is put, and no step is counted
  pub bad_words : status ≡ BadWords → plan_of words ≡ None
  pub other_words : plan_of words ≡ None → ((status ≡ BadWords) ⊎ (status ≡ NoMemory)) × (new ≡ old)
  pub missing : LacksScript told words → ((status ≡ ReadFault) ⊎ (status ≡ NoMemory)) × (new ≡ old)

-- a whole run with these words, from `old` to `new`
pub record IsRun {K E : Type 0} (words : List (List ℕ)) (old new : RunSeen K E) (status : Status) : Type 0 where
  -- How the run ended, and the status once its text was put: a failed put makes a write fault of a refused line and of bad
  -- words, and leaves every other status.
  pub ended : Status
  pub ends : Ends old.shelf.told words new.shelf.left (seen old.out.told old.steps) (seen new.out.told new.steps) ended
  pub told : IsTold ended status old.err.told new.err.told old.err.faults new.err.faults
  pub quiet : status ≡ Done → new.err.sink ≡ old.err.sink
  -- Where nothing waited before the run, nothing waits behind it: all that was put was written, but for a write fault.
  pub written : old.out.waiting ≡ [] → status ≢ WriteFault → new.out.waiting ≡ []
  -- Faults come only where a count rose, and bad words only where they have no form.
  pub bad_words : status ≡ BadWords → plan_of words ≡ None
  pub caused : IsCausedOrUntold ReadFault WriteFault (faults old.shelf.faults old.out.faults) (faults new.shelf.faults new.out.faults) old.err.faults new.err.faults status
  pub sure : IsTrue old.shelf.sure → (name : List ℕ) → script_named words ≡ Some name → HasFile old.shelf.told name → status ≢ ReadFault
