-- Work that stops for want of memory, between two commands.
use Rattle.std.proofs.Common.{◌≡◌, ℕ, ℤ, List, [], ◌∷◌, Option, Some, None, IfSome, refl, sym, append-nil, arith}
use Rattle.venue_words.specs.declared.command.Event.{Event}
use Rattle.venue_words.specs.Floors.{FloorMark, SymbolView, TurnsKept}
use Rattle.member_gate.specs.declared.refusal.DeskRefusal.{DeskRefusal}
use Rattle.member_gate.specs.declared.refusal.DeskRefusal.TheVariants.{NoMemory}
use Rattle.member_gate.specs.Answering.{Submission}
use Rattle.member_gate.specs.Submitting.{TookAll, TookNone, TookNoSteps, Waited}
use Rattle.line_work.specs.Refusing.{TookPart}

turns_kept : (turns : Option ℕ) → TurnsKept turns turns
turns_kept None = refl
turns_kept (Some n) = (n, refl, omega arith)

waited_self : (view : SymbolView) → Waited view view
waited_self view = record {
  none = (([], sym (append-nil view.journal)), refl);
  reports = ([], sym (append-nil view.reports));
  turns = turns_kept view.turns;
}

if_some : {A : Type 0} (P : Type 0) (o : Option A) → P → IfSome o (λ x. P)
if_some P None p = tt
if_some P (Some x) p = p

module _ {F : Type 0} (at : F → ℕ → SymbolView) (step_limit : FloorMark → ℕ → List Event → Event → Option ℕ) (mark : FloorMark) (feed : ℕ) (moment : ℤ) where
  no_steps : (left : List Submission) (x : F × ℕ) → TookNoSteps at step_limit mark feed moment left x x
  no_steps [] x = refl
  no_steps (one ∷ others) x = if_some (x.1 ≡ x.1) _ refl

  none_taken : (left : List Submission) (x : F × ℕ) → TookNone at step_limit mark feed moment NoMemory left x x
  none_taken left x = record {
    next = λ symbol h. waited_self (at x.0 symbol);
    others = λ symbol h. refl;
    steps = no_steps left x;
    full = tt;
  }

  -- before the first command
  pub stopped_before : (submissions : List Submission) (x : F × ℕ) → TookPart at step_limit mark feed moment NoMemory submissions x x
  stopped_before submissions x = record {
    taken = [];
    left = submissions;
    parts = refl;
    between = x;
    took = refl;
    rest = none_taken submissions x;
  }

  -- behind the last one
  pub stopped_behind : (submissions : List Submission) (before after : F × ℕ) → TookAll at step_limit mark feed moment submissions before after
      → TookPart at step_limit mark feed moment NoMemory submissions before after
  stopped_behind submissions before after took = record {
    taken = submissions;
    left = [];
    parts = sym (append-nil submissions);
    between = after;
    took = took;
    rest = none_taken [] after;
  }

  -- at the floor's refusal of the first
  pub stopped_first : (refusal : DeskRefusal) (submissions : List Submission) (before after : F × ℕ)
      → TookNone at step_limit mark feed moment refusal submissions before after
      → TookPart at step_limit mark feed moment refusal submissions before after
  stopped_first refusal submissions before after none = record {
    taken = [];
    left = submissions;
    parts = refl;
    between = before;
    took = refl;
    rest = none;
  }
