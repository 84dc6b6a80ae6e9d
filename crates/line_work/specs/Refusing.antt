-- How the work of a line stops.
use Rattle.std.specs.Prelude.{◌≡◌, ◌⊎◌, ℕ, ℤ, List, ◌++◌, Option, Result, Ok, Err}
use Rattle.venue_words.specs.declared.command.Event.{Event}
use Rattle.venue_words.specs.Floors.{FloorMark, SymbolView}
use Rattle.member_gate.specs.declared.refusal.DeskRefusal.{DeskRefusal}
use Rattle.member_gate.specs.declared.refusal.DeskRefusal.TheVariants as refusal
use Rattle.member_gate.specs.Answering.{Submission}
use Rattle.member_gate.specs.Submitting.{TookAll, TookNone}
use Rattle.script_text.specs.declared.fault.LineFault.{LineFault}
use Rattle.script_text.specs.declared.fault.LineFault.TheVariants.{Bad, Limit, NoMemory}
use Rattle.script_text.specs.declared.fault.LimitCause.TheVariants.{Events}
use Rattle.line_work.specs.LineWork.{LineWork}

-- a floor took the first of these commands, one after the other, and none of those that were left at a refusal
pub record TookPart {F : Type 0} (at : F → ℕ → SymbolView) (step_limit : FloorMark → ℕ → List Event → Event → Option ℕ) (mark : FloorMark) (feed : ℕ) (moment : ℤ) (refusal : DeskRefusal) (submissions : List Submission) (before after : F × ℕ) : Type 0 where
  pub taken : List Submission
  pub left : List Submission
  pub parts : submissions ≡ taken ++ left
  pub between : F × ℕ
  pub took : TookAll at step_limit mark feed moment taken before between
  pub rest : TookNone at step_limit mark feed moment refusal left between after

-- the fault of the n-th line whose work was refused
abbrev pub refusal_at : ℕ → DeskRefusal → LineFault
refusal_at n (refusal.Full symbol found) = Limit n Events
refusal_at n refusal.NoMemory = NoMemory

-- a fault of a line as that of the n-th one
abbrev pub fault_at : ℕ → LineFault → LineFault
fault_at n (Bad line cause) = Bad n cause
fault_at n (Limit line which) = Limit n which
fault_at n NoMemory = NoMemory

-- the fault of a line: where the line can be read, its work stopped at a refusal; else it is refused so, or memory was wanted,
-- and the floor was not asked
abbrev pub IsRefused : {F : Type 0} → (F → ℕ → SymbolView) → (FloorMark → ℕ → List Event → Event → Option ℕ) → FloorMark → ℕ → LineFault → Result LineWork LineFault → F × ℕ → F × ℕ → Type 0
IsRefused at step_limit mark feed fault (Ok work) before after =
    (refusal : DeskRefusal) × (fault ≡ refusal_at 1 refusal)
    × TookPart at step_limit mark feed work.state.moment refusal work.submissions before after
IsRefused at step_limit mark feed fault (Err meant) before after =
    ((fault ≡ NoMemory) ⊎ (fault ≡ meant)) × (after ≡ before)
