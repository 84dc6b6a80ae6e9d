-- A day around its rounds.
use Rattle.std.proofs.Common.{◌≡◌, ◌⊎◌, inl, inr, ⊎_elim, ℕ, ◌≤◌, true, List, [], ◌∷◌, refl, sym, ◌∙◌, ap, subst}
use Rattle.std.proofs.lemmas.List.{append-nil}
use Rattle.day_journal.specs.Disk.{Told, LeavesOnly, Unchanged}
use Rattle.day_journal.specs.DiskLaws.{weaker, goes_on}
use Rattle.day_journal.specs.Log.{Reading, reading, intact}
use Rattle.day_journal.specs.Refusals.{ReadsAsOne}
use Rattle.live_core.specs.Lines.{Yields, kept, AreNotTaken, IsFrontOf}
use Rattle.live_core.specs.Live.{Stands, Ran, Whole}
use Rattle.live_core.specs.Serving.{started, IsUnopened, IsStopped, LivesWhole, IsEarlier, IsLater, IsUnstarted, Lives, Served}
use Rattle.live_core.specs.declared.serving.DayEnd.{DayEnd}
use Rattle.live_core.specs.declared.serving.DayEnd.TheVariants.{Lived, Damaged, OtherHead, BadHead, Refused, Unkept, DiskFault, NoMemory, Halted}

pub opened_leaves : (start begun now : Told) → Unchanged start begun → start.honest ≡ true
    → ((t : ℕ) (file : List ℕ) → t ≤ begun.moment → begun.may_leave file → begun.left_since t file)
    → LeavesOnly begun now (ReadsAsOne begun.may_leave) → LeavesOnly start now (ReadsAsOne start.may_leave)
opened_leaves start begun now x honest counts step =
    let first = x.crash honest in
    let was = weaker start begun start.may_leave (ReadsAsOne start.may_leave) first (λ file may. (file, may, refl)) in
    goes_on start begun now (ReadsAsOne start.may_leave) (ReadsAsOne begun.may_leave) was step
    (λ file one. (one.0, first.each one.0 (counts start.moment one.0 first.later one.1), one.2))

pub narrow : (had head : List (List ℕ)) (c : List ℕ) → (reading c ≡ intact had) ⊎ (reading c ≡ intact (started had head)) → (reading c ≡ intact had) ⊎ (reading c ≡ intact head)
narrow [] head c is = is
narrow (line ∷ lines) head c (inl is) = inl is
narrow (line ∷ lines) head c (inr is) = inl is

-- a file that reads as these lines
module _ (old : Told) (had : List (List ℕ)) (found : reading old.seen ≡ intact had) (reads : old.may_leave old.seen) where
  was_there : (c : List ℕ) → reading c ≡ intact had → ReadsAsOne old.may_leave c
  was_there c is = (old.seen, reads, is ∙ sym found)

  earlier : (head : List (List ℕ)) (c : List ℕ) → (reading c ≡ intact had) ⊎ (reading c ≡ intact head) → IsEarlier old head c
  earlier head c (inl is) = inl (was_there c is)
  earlier head c (inr is) = inr is

  pub before_rounds : (head : List (List ℕ)) (mid new : Told) → LeavesOnly old mid (ReadsAsOne old.may_leave)
      → LeavesOnly mid new (λ c. (reading c ≡ intact had) ⊎ (reading c ≡ intact head)) → LeavesOnly old new (IsEarlier old head)
  before_rounds head mid new opened then =
      goes_on old mid new (IsEarlier old head) _ (weaker old mid _ (IsEarlier old head) opened (λ c one. inl one)) then (earlier head)

  pub not_started : (yields : Yields) (head brought : List (List ℕ)) (told : List ℕ) (new : Told) (end : DayEnd) → IsUnstarted yields head had end
      → LeavesOnly old new (IsEarlier old head) → Served yields head brought brought told told old new end
  not_started yields head brought told new (Lived end) why crash = absurd why
  not_started yields head brought told new (Damaged at) why crash = absurd why
  not_started yields head brought told new DiskFault why crash = absurd why
  not_started yields head brought told new OtherHead why crash = record {
    brought = refl;
    told = refl;
    cause = (ap (λ (r : Reading). r.damaged) found, λ front. why (subst (λ (r : Reading). IsFrontOf head r.lines) found front));
    crash = crash;
  }
  not_started yields head brought told new BadHead why crash = record {
    brought = refl;
    told = refl;
    cause = (found ∙ ap intact why.0, why.1);
    crash = crash;
  }
  not_started yields head brought told new (Refused line) why crash = record {
    brought = refl;
    told = refl;
    cause = (ap (λ (r : Reading). r.damaged) found, λ all. why (subst (λ (r : Reading). kept yields [] r.lines ≡ r.lines) found all));
    crash = crash;
  }
  not_started yields head brought told new (Unkept end) why crash = record { brought = refl; told = refl; cause = found ∙ ap intact why; crash = crash }
  not_started yields head brought told new NoMemory why crash = record { brought = refl; told = refl; cause = tt; crash = crash }
  not_started yields head brought told new Halted why crash = record {
    brought = refl;
    told = refl;
    cause = (ap (λ (r : Reading). r.damaged) found, subst (λ (r : Reading). AreNotTaken yields [] (started r.lines head)) (sym found) why);
    crash = crash;
  }

  pub lived : (yields : Yields) (head brought_old brought_new : List (List ℕ)) (told_old told_new : List ℕ) (mid begun new : Told)
      → IsFrontOf head (started had head)
      → kept yields [] (started had head) ≡ started had head
      → LeavesOnly old mid (ReadsAsOne old.may_leave)
      → LeavesOnly mid begun (λ c. (reading c ≡ intact had) ⊎ (reading c ≡ intact (started had head)))
      → Stands (started had head) begun
      → Ran yields (started had head) brought_old brought_new told_old told_new begun new
      → Lives yields head brought_old brought_new told_old told_new old new
  lived yields head brought_old brought_new told_old told_new mid begun new begins taken opened then stands ran =
      let all = kept yields (started had head) ran.asked in
      let later : (c : List ℕ) → IsEarlier old (started had head) c → IsLater old (started had head) all c =
      λ c. ⊎_elim (λ one. inl one) (λ is. inr ([], is ∙ ap intact (sym (append-nil (started had head))), (all, refl))) in
      record {
        had = had;
        found = found;
        begins = begins;
        taken = taken;
        asked = ran.asked;
        brought = ran.brought;
        put = ran.put;
        rest = ran.rest;
        told = ran.told;
        part = ran.part;
        crash = goes_on old begun new (IsLater old (started had head) all) _ (weaker old begun _ _ (before_rounds (started had head) mid begun opened then) later) (ran.crash stands) (λ c has. inr has);
        safe = ran.safe stands;
      }

  pub lived_whole : (yields : Yields) (is : List (List ℕ) → Type 0) (head brought_old brought_new : List (List ℕ)) (told_old told_new : List ℕ) (begun new : Told)
      → Stands (started had head) begun
      → Whole yields is (started had head) brought_old brought_new told_old told_new begun new
      → LivesWhole yields head brought_old brought_new told_old told_new old new
  lived_whole yields is head brought_old brought_new told_old told_new begun new stands w = record {
    had = had;
    found = found;
    asked = w.asked;
    brought = w.brought;
    told = w.told;
    stands = w.stands stands;
  }

-- a day that did not begin did not end as it was asked to
pub unopened_not : (found : Reading) (end : DayEnd) → IsUnopened found end → IsStopped end → ⊥
unopened_not found (Lived end) why is = why
unopened_not found (Damaged at) why is = is
unopened_not found OtherHead why is = is
unopened_not found BadHead why is = is
unopened_not found (Refused line) why is = is
unopened_not found (Unkept end) why is = is
unopened_not found DiskFault why is = is
unopened_not found NoMemory why is = is
unopened_not found Halted why is = is

pub unstarted_not : (yields : Yields) (head had : List (List ℕ)) (end : DayEnd) → IsUnstarted yields head had end → IsStopped end → ⊥
unstarted_not yields head had (Lived end) why is = why
unstarted_not yields head had (Damaged at) why is = is
unstarted_not yields head had OtherHead why is = is
unstarted_not yields head had BadHead why is = is
unstarted_not yields head had (Refused line) why is = is
unstarted_not yields head had (Unkept end) why is = is
unstarted_not yields head had DiskFault why is = is
unstarted_not yields head had NoMemory why is = is
unstarted_not yields head had Halted why is = is
