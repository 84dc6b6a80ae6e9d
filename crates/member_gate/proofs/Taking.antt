-- How what a floor took is joined, and what a refusal leaves of it.
use Rattle.std.proofs.Common.{◌≡◌, ◌≢◌, ℕ, ◌+◌, length, ◌≤◌, ℤ, List, [], ◌∷◌, ◌++◌, Option, Some, None, refl, sym, subst, arith}
use Rattle.std.specs.Prelude.{IfSome, slice_index}
use Rattle.std.proofs.lemmas.List.{append-nil}
use Rattle.venue_words.specs.declared.command.Event.{Event}
use Rattle.venue_words.specs.Floors.{FloorMark, SymbolView, Records, TurnsRose, TurnsKept, CostsAtMost}
use Rattle.venue_words.specs.Journals.{event, StartsWith}
use Rattle.member_gate.specs.declared.refusal.DeskRefusal.{DeskRefusal}
use Rattle.member_gate.specs.declared.refusal.DeskRefusal.TheVariants.{Full, NoMemory}
use Rattle.member_gate.specs.Answering.{Submission}
use Rattle.member_gate.specs.Submitting.{TookOne, TookAll, Waited, TookNoSteps, IsFullNext, TookNone}

starts_self : {A : Type 0} (xs : List A) → StartsWith xs xs
starts_self xs = ([], sym (append-nil xs))

turns_kept : (turns : Option ℕ) → TurnsKept turns turns
turns_kept None = refl
turns_kept (Some n) = (n, refl, omega arith)

pub waited_self : (view : SymbolView) → Waited view view
waited_self view = record {
  none = (starts_self view.journal, refl);
  reports = starts_self view.reports;
  turns = turns_kept view.turns;
}

if_some : {A : Type 0} (P : Type 0) (o : Option A) → P → IfSome o (λ x. P)
if_some P None p = tt
if_some P (Some x) p = p

module _ {F : Type 0} (at : F → ℕ → SymbolView) (step_limit : FloorMark → ℕ → List Event → Event → Option ℕ) (mark : FloorMark) (feed : ℕ) (moment : ℤ) where
  pub took_append : (first second : List Submission) (before between after : F × ℕ) → TookAll at step_limit mark feed moment first before between → TookAll at step_limit mark feed moment second between after
      → TookAll at step_limit mark feed moment (first ++ second) before after
  took_append [] second before between after h k = subst (λ (x : F × ℕ). TookAll at step_limit mark feed moment second x after) h k
  took_append (one ∷ others) second before between after h k = (h.0, h.1, took_append others second h.0 between after h.2 k)

  -- one command was taken; its moment may be read in another spelling
  pub took_just : (one : Submission) (number : ℕ) (read : ℤ) (before after : F × ℕ) → read ≡ moment → Records (at before.0 one.symbol) (at after.0 one.symbol) number feed read one.command
      → number ≤ slice_index mark.setup.limits one.symbol → StartsWith (at after.0 one.symbol).reports (at before.0 one.symbol).reports → TurnsRose (at before.0 one.symbol).turns (at after.0 one.symbol).turns
      → ((other : ℕ) → other ≢ one.symbol → at after.0 other ≡ at before.0 other)
      → CostsAtMost (step_limit mark one.symbol) (at after.0 one.symbol).journal (event number feed read one.command) before.1 after.1
      → TookAll at step_limit mark feed moment (one ∷ []) before after
  took_just one number read before after e records room reports turns others steps =
      let here : TookOne at step_limit mark feed read one before after = record {
        number = number;
        records = records;
        room = room;
        reports = reports;
        turns = turns;
        others = others;
        steps = steps;
      } in
      subst (λ (m : ℤ). TookAll at step_limit mark feed m (one ∷ []) before after) e (after, here, refl)

  no_steps : (left : List Submission) (before after : F × ℕ) → after.1 ≡ before.1 → TookNoSteps at step_limit mark feed moment left before after
  no_steps [] before after e = e
  no_steps (one ∷ others) before after e = if_some (after.1 ≡ before.1) _ e

  not_full : (refusal : DeskRefusal) (left : List Submission) (after : F) → IsFullNext at mark refusal [] after → IsFullNext at mark refusal left after
  not_full (Full symbol found) left after h = absurd h.0
  not_full NoMemory left after h = tt

  full_more : (refusal : DeskRefusal) (one : Submission) (others more : List Submission) (after : F) → IsFullNext at mark refusal (one ∷ others) after → IsFullNext at mark refusal (one ∷ more) after
  full_more (Full symbol found) one others more after h = h
  full_more NoMemory one others more after h = tt

  -- where none of these was taken, none of these and more was
  pub none_of_more : (refusal : DeskRefusal) (left more : List Submission) (before after : F × ℕ) → TookNone at step_limit mark feed moment refusal left before after → TookNone at step_limit mark feed moment refusal (left ++ more) before after
  none_of_more refusal [] more before after h = record {
    next = λ symbol _. subst (Waited (at before.0 symbol)) (sym (h.others symbol (λ x. x))) (waited_self (at before.0 symbol));
    others = λ symbol _. h.others symbol (λ x. x);
    steps = no_steps more before after h.steps;
    full = not_full refusal more after.0 h.full;
  }
  none_of_more refusal (one ∷ others) more before after h = record {
    next = h.next;
    others = h.others;
    steps = h.steps;
    full = full_more refusal one others (others ++ more) after.0 h.full;
  }

  -- where nothing happened, none was taken
  pub none_of_any : (left : List Submission) (x : F × ℕ) → TookNone at step_limit mark feed moment NoMemory left x x
  none_of_any left x =
      let none : TookNone at step_limit mark feed moment NoMemory [] x x = record {
        next = λ symbol h. absurd h;
        others = λ symbol _. refl;
        steps = refl;
        full = tt;
      } in
      none_of_more NoMemory [] left x x none

module _ {F : Type 0} (at : F → ℕ → SymbolView) (step_limit : FloorMark → ℕ → List Event → Event → Option ℕ) (mark : FloorMark) (feed : ℕ) (moment : ℤ) where
  no_steps_at : (left : List Submission) (floor : F × ℕ) → TookNoSteps at step_limit mark feed moment left floor floor
  no_steps_at [] floor = refl
  no_steps_at (one ∷ others) floor = if_some (floor.1 ≡ floor.1) (step_limit mark one.symbol (at floor.0 one.symbol).journal (event (length (at floor.0 one.symbol).journal + 1) feed moment one.command)) refl

  -- where memory was wanted and the floor is as it was, no command was taken
  pub none_taken : (left : List Submission) (floor : F × ℕ) → TookNone at step_limit mark feed moment NoMemory left floor floor
  none_taken left floor = record {
    next = λ symbol h. waited_self (at floor.0 symbol);
    others = λ symbol h. refl;
    steps = no_steps_at left floor;
    full = tt;
  }
