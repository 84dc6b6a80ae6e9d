-- What commands that are submitted to a floor do to it. A floor stands here with the count of steps so far.
use Rattle.std.specs.Prelude.{◌≡◌, ◌≢◌, ℕ, ◌+◌, ◌≤◌, ℤ, List, [], ◌∷◌, ◌++◌, length, slice_index, Option}
use Rattle.venue_words.specs.declared.command.Event.{Event}
use Rattle.venue_words.specs.declared.config.Config.{Config}
use Rattle.venue_words.specs.Floors.{FloorMark, SymbolView, Records, AddsNone, TurnsRose, TurnsKept, CostsAtMost, CostsNothing}
use Rattle.venue_words.specs.Journals.{event, StartsWith}
use Rattle.session_core.specs.Machine.{Machine}
use Rattle.member_gate.specs.declared.refusal.DeskRefusal.{DeskRefusal}
use Rattle.member_gate.specs.declared.refusal.DeskRefusal.TheVariants.{Full, NoMemory}
use Rattle.member_gate.specs.Answering.{Submission}
use Rattle.member_gate.specs.Working.{work_of_frames, GaveUp}

-- the floor took a command: it stands in the journal of its symbol once, behind all that had been seen and within the
-- limit, and is an own call; nothing changed at another symbol. Where it is said how many steps the event may take over
-- the journal found, it took no more
pub record TookOne {F : Type 0} (at : F → ℕ → SymbolView) (step_limit : FloorMark → ℕ → List Event → Event → Option ℕ) (mark : FloorMark) (feed : ℕ) (moment : ℤ) (one : Submission) (before after : F × ℕ) : Type 0 where
  pub number : ℕ
  pub records : Records (at before.0 one.symbol) (at after.0 one.symbol) number feed moment one.command
  pub room : number ≤ slice_index mark.setup.limits one.symbol
  pub reports : StartsWith (at after.0 one.symbol).reports (at before.0 one.symbol).reports
  pub turns : TurnsRose (at before.0 one.symbol).turns (at after.0 one.symbol).turns
  pub others : (other : ℕ) → other ≢ one.symbol → at after.0 other ≡ at before.0 other
  pub steps : CostsAtMost (step_limit mark one.symbol) (at after.0 one.symbol).journal (event number feed moment one.command) before.1 after.1

-- the floor took commands, one after the other, and nothing else happened
abbrev pub TookAll : {F : Type 0} → (F → ℕ → SymbolView) → (FloorMark → ℕ → List Event → Event → Option ℕ) → FloorMark → ℕ → ℤ → List Submission → F × ℕ → F × ℕ → Type 0
TookAll at step_limit mark feed moment [] before after = after ≡ before
TookAll {F} at step_limit mark feed moment (one ∷ others) before after =
    (next : F × ℕ)
    × TookOne at step_limit mark feed moment one before next
    × TookAll at step_limit mark feed moment others next after

-- ---- refusals

-- the first of these commands is for this symbol
abbrev pub IsNextAt : List Submission → ℕ → Type 0
IsNextAt [] symbol = ⊥
IsNextAt (one ∷ others) symbol = one.symbol ≡ symbol

-- no own call was added; others may have submitted, and nothing that was seen is taken back
pub record Waited (before after : SymbolView) : Type 0 where
  pub none : AddsNone before after
  pub reports : StartsWith after.reports before.reports
  pub turns : TurnsKept before.turns after.turns

-- where it is said how many steps the next command may take over the journal found, none was taken
abbrev pub TookNoSteps : {F : Type 0} → (F → ℕ → SymbolView) → (FloorMark → ℕ → List Event → Event → Option ℕ) → FloorMark → ℕ → ℤ → List Submission → F × ℕ → F × ℕ → Type 0
TookNoSteps at step_limit mark feed moment [] before after = after.1 ≡ before.1
TookNoSteps at step_limit mark feed moment (one ∷ others) before after =
    CostsNothing (step_limit mark one.symbol) (at after.0 one.symbol).journal
    (event (length (at after.0 one.symbol).journal + 1) feed moment one.command) before.1 after.1

-- a full journal is that of the next command's symbol, and holds its limit
abbrev pub IsFullNext : {F : Type 0} → (F → ℕ → SymbolView) → FloorMark → DeskRefusal → List Submission → F → Type 0
IsFullNext at mark (Full symbol found) left after =
    IsNextAt left symbol × (found ≡ length (at after symbol).journal) × (found ≡ slice_index mark.setup.limits symbol)
IsFullNext at mark NoMemory left after = Unit {0}

-- of the commands that were left none was taken, and only at the symbol of the next one anything may have changed
pub record TookNone {F : Type 0} (at : F → ℕ → SymbolView) (step_limit : FloorMark → ℕ → List Event → Event → Option ℕ) (mark : FloorMark) (feed : ℕ) (moment : ℤ) (refusal : DeskRefusal) (left : List Submission) (before after : F × ℕ) : Type 0 where
  pub next : (symbol : ℕ) → IsNextAt left symbol → Waited (at before.0 symbol) (at after.0 symbol)
  pub others : (symbol : ℕ) → (IsNextAt left symbol → ⊥) → at after.0 symbol ≡ at before.0 symbol
  pub steps : TookNoSteps at step_limit mark feed moment left before after
  pub full : IsFullNext at mark refusal left after.0

-- the work on a stream stopped at a refusal: some frames were worked, and the floor took their commands, so many; the
-- session gave up over the next frame, and no further command was taken
pub record Stopped {F : Type 0} (at : F → ℕ → SymbolView) (step_limit : FloorMark → ℕ → List Event → Event → Option ℕ) (mark : FloorMark) (config : Config) (member feed : ℕ) (moment : ℤ) (session : Machine) (frames : List (List ℕ)) (refusal : DeskRefusal) (last : Machine) (submitted : ℕ) (before after : F × ℕ) : Type 0 where
  pub worked : List (List ℕ)
  pub left : List (List ℕ)
  pub frames_are : frames ≡ worked ++ left
  pub between : F × ℕ
  pub took : TookAll at step_limit mark feed moment (work_of_frames config member moment session worked).submissions before between
  pub count : submitted ≡ length (work_of_frames config member moment session worked).submissions
  pub gave_up : GaveUp moment (work_of_frames config member moment session worked).session left last
  pub rest : TookNone at step_limit mark feed moment refusal (work_of_frames config member moment (work_of_frames config member moment session worked).session left).submissions between after
