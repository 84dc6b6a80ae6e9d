-- A journal on an honest disk, from line to line.
use Rattle.std.proofs.Common.{◌≡◌, ℕ, ◌+◌, ◌-◌, ◌≤◌, true, false, List, [], ◌∷◌, ◌++◌, length, Some, slice_get, refl, sym, ◌∙◌, ap, subst, inl, inr, arith, length-append}
use Rattle.day_journal.specs.Disk.{Told, LeavesOnly}
use Rattle.day_journal.specs.DiskLaws.{stays, weaker, goes_on}
use Rattle.day_journal.specs.Log.{Reading, reading, intact, size_of, IsBeforeOrAfter}
use Rattle.day_journal.specs.LogLaws.{size_of-push}
use Rattle.day_journal.specs.LogView.{LogView}
use Rattle.day_core.specs.Agreement.{IsFront, kept}
use Rattle.day_core.specs.Crashes.{Follows, Holds, HoldsFirst}
use Rattle.day_core.specs.Keeping.{AppendsLine, IsKept, ReadAs}
use Rattle.day_core.specs.Middle.{Stands}
use Rattle.day_core.proofs.Fronts.{front_all, front_trans, front_push, kept_past, kept_same}

lines_read : (file : List ℕ) (lines : List (List ℕ)) → reading file ≡ intact lines → (reading file).lines ≡ lines
lines_read file lines e = ap (λ (r : Reading). r.lines) e

-- more lines of the script leave no fewer files
pub follows_more : (lines more : List (List ℕ)) (files : List ℕ → Type 0) → IsFront lines more → (file : List ℕ) → Follows lines files file → Follows more files file
follows_more lines more files x file (inl old) = inl old
follows_more lines more files x file (inr grown) = inr (record {
  has = grown.has;
  reads = grown.reads;
  front = front_trans grown.has lines more grown.front x;
  before = grown.before;
  was = grown.was;
  keeps = grown.keeps;
})

-- ---- the start

pub stands_start : (journal : List (List ℕ)) (opened : Told) → Holds journal opened
    → ((file : List ℕ) → opened.left_since opened.moment file → opened.may_leave file) → Stands journal [] opened opened
stands_start journal opened x now = record {
  holds = x;
  crash = stays opened (Follows [] (ReadAs journal)) (λ file left.
      let same : reading file ≡ intact journal = ap reading (x.durable file (now file left)) ∙ x.reads in
      inl (file, same, refl));
}

-- ---- a line

same_stands : (journal worked : List (List ℕ)) (line : List ℕ) (opened now : Told) → Stands journal worked opened now
    → slice_get journal (length worked) ≡ Some line → Stands journal (worked ++ line ∷ []) opened now
same_stands journal worked line opened now x e = record {
  holds = subst (λ (lines : List (List ℕ)). Holds lines now) (sym (kept_same journal worked line e)) x.holds;
  crash = weaker opened now (Follows worked (ReadAs journal)) (Follows (worked ++ line ∷ []) (ReadAs journal)) x.crash
      (follows_more worked (worked ++ line ∷ []) (ReadAs journal) (line ∷ [], refl));
}

-- the lines before an append, or these and one more
grows : (journal worked : List (List ℕ)) (line : List ℕ) (opened mid : Told) → reading opened.seen ≡ intact journal → IsFront journal worked
    → reading mid.seen ≡ intact worked → (file : List ℕ) → IsBeforeOrAfter (reading mid.seen).lines line file
    → Follows (worked ++ line ∷ []) (ReadAs journal) file
grows journal worked line opened mid first front here file (inl before) = inr (record {
  has = worked;
  reads = before ∙ ap intact (lines_read mid.seen worked here);
  front = (line ∷ [], refl);
  before = opened.seen;
  was = first;
  keeps = subst (λ (lines : List (List ℕ)). IsFront lines worked) (sym (lines_read opened.seen journal first)) front;
})
grows journal worked line opened mid first front here file (inr after) = inr (record {
  has = worked ++ line ∷ [];
  reads = after ∙ ap (λ (lines : List (List ℕ)). intact (lines ++ line ∷ [])) (lines_read mid.seen worked here);
  front = front_all (worked ++ line ∷ []);
  before = opened.seen;
  was = first;
  keeps = subst (λ (lines : List (List ℕ)). IsFront lines (worked ++ line ∷ [])) (sym (lines_read opened.seen journal first)) (front_push journal worked (line ∷ []) front);
})

-- all that was worked is there
reads_worked : (journal worked : List (List ℕ)) (opened mid : Told) → length journal ≤ length worked → Stands journal worked opened mid
    → reading mid.seen ≡ intact worked
reads_worked journal worked opened mid le x = x.holds.reads ∙ ap intact (kept_past journal worked le)

-- what a crash leaves of an append
pub crash_goes : (journal worked : List (List ℕ)) (line : List ℕ) (opened mid new : Told) → reading opened.seen ≡ intact journal
    → length journal ≤ length worked → IsFront journal worked → Stands journal worked opened mid
    → LeavesOnly mid new (IsBeforeOrAfter (reading mid.seen).lines line) → LeavesOnly opened new (Follows (worked ++ line ∷ []) (ReadAs journal))
crash_goes journal worked line opened mid new first le front x step =
    goes_on opened mid new (Follows (worked ++ line ∷ []) (ReadAs journal)) (IsBeforeOrAfter (reading mid.seen).lines line)
    (weaker opened mid (Follows worked (ReadAs journal)) (Follows (worked ++ line ∷ []) (ReadAs journal)) x.crash
    (follows_more worked (worked ++ line ∷ []) (ReadAs journal) (line ∷ [], refl)))
    step (grows journal worked line opened mid first front (reads_worked journal worked opened mid le x))

new_stands : {D : Type 0} (told : D → Told) (journal worked : List (List ℕ)) (line : List ℕ) (opened : Told) (old new : LogView D)
    → reading opened.seen ≡ intact journal → length journal ≤ length worked → IsFront journal worked
    → (told old.disk).honest ≡ true → Stands journal worked opened (told old.disk) → AppendsLine told old new line
    → Stands journal (worked ++ line ∷ []) opened (told new.disk)
new_stands told journal worked line opened old new first le front honest x step =
    let there = reads_worked journal worked opened (told old.disk) le x in
    let count : length (worked ++ line ∷ []) ≡ length worked + 1 = length-append worked (line ∷ []) in
    record {
      holds = record {
        reads = step.lines honest
            ∙ ap (λ (lines : List (List ℕ)). intact (lines ++ line ∷ [])) (lines_read (told old.disk).seen worked there)
            ∙ ap intact (sym (kept_past journal (worked ++ line ∷ []) (omega (arith, count, le))));
        durable = step.durable honest;
      };
      crash = crash_goes journal worked line opened (told old.disk) (told new.disk) first le front x (step.crash honest);
    }

-- a line that was met in the journal, or appended
pub stands_next : {D : Type 0} (told : D → Told) (journal worked : List (List ℕ)) (line : List ℕ) (opened : Told) (old new : LogView D)
    → reading opened.seen ≡ intact journal → (length journal ≤ length worked → IsFront journal worked)
    → (told old.disk).honest ≡ true → Stands journal worked opened (told old.disk) → IsKept told journal old new (length worked + 1) line
    → Stands journal (worked ++ line ∷ []) opened (told new.disk)
stands_next told journal worked line opened old new first front honest x (true, less, step) =
    let le : length journal ≤ length worked = omega (arith, less) in
    new_stands told journal worked line opened old new first le (front le) honest x step
stands_next told journal worked line opened old new first front honest x (false, had, step) =
    let place : length worked + 1 - 1 ≡ length worked = omega arith in
    same_stands journal worked line opened (told new.disk)
    (subst (λ (log : LogView _). Stands journal worked opened (told log.disk)) (sym step) x)
    (ap (λ (k : ℕ). slice_get journal k) (sym place) ∙ had)

-- ---- the size of the log

pub size_next : {D : Type 0} (told : D → Told) (journal worked : List (List ℕ)) (line : List ℕ) (old new : LogView D)
    → old.size ≡ size_of (kept journal worked) → IsKept told journal old new (length worked + 1) line
    → new.size ≡ size_of (kept journal (worked ++ line ∷ []))
size_next told journal worked line old new e (true, less, step) =
    let le : length journal ≤ length worked = omega (arith, less) in
    let count : length (worked ++ line ∷ []) ≡ length worked + 1 = length-append worked (line ∷ []) in
    let before : old.size ≡ size_of worked = e ∙ ap size_of (kept_past journal worked le) in
    let after : size_of (kept journal (worked ++ line ∷ [])) ≡ size_of (worked ++ line ∷ []) =
    ap size_of (kept_past journal (worked ++ line ∷ []) (omega (arith, count, le))) in
    omega (arith, step.size, before, after, size_of-push worked line)
size_next told journal worked line old new e (false, had, step) =
    let place : length worked + 1 - 1 ≡ length worked = omega arith in
    ap (λ (log : LogView _). log.size) step ∙ e
    ∙ ap size_of (sym (kept_same journal worked line (ap (λ (k : ℕ). slice_get journal k) (sym place) ∙ had)))

pub unspent_next : {D : Type 0} (told : D → Told) (journal : List (List ℕ)) (n : ℕ) (line : List ℕ) (old new : LogView D)
    → old.spent ≡ false → IsKept told journal old new n line → new.spent ≡ false
unspent_next told journal n line old new e (true, less, step) = step.unspent
unspent_next told journal n line old new e (false, had, step) = ap (λ (log : LogView _). log.spent) step ∙ e

pub honest_next : {D : Type 0} (told : D → Told) (journal : List (List ℕ)) (n : ℕ) (line : List ℕ) (old new : LogView D)
    → IsKept told journal old new n line → (told new.disk).honest ≡ (told old.disk).honest
honest_next told journal n line old new (true, less, step) = step.honest
honest_next told journal n line old new (false, had, step) = ap (λ (log : LogView _). (told log.disk).honest) step

-- ---- behind the last line

front_read : (lines other : List (List ℕ)) (file : List ℕ) → IsFront lines other → reading file ≡ intact other → IsFront lines (reading file).lines
front_read lines other file x e = subst (λ (l : List (List ℕ)). IsFront lines l) (sym (lines_read file other e)) x

-- each crash leaves what was worked
pub holds_first : (journal worked : List (List ℕ)) (now : Told) → Holds (kept journal worked) now → HoldsFirst worked now
holds_first journal worked now x file may =
    front_read worked (kept journal worked) file (_, refl) (ap reading (x.durable file may) ∙ x.reads)

before_or_after : (worked : List (List ℕ)) (line : List ℕ) (mid : Told) → reading mid.seen ≡ intact worked
    → (file : List ℕ) → IsBeforeOrAfter (reading mid.seen).lines line file → IsFront worked (reading file).lines
before_or_after worked line mid here file (inl before) =
    front_read worked worked file (front_all worked) (before ∙ ap intact (lines_read mid.seen worked here))
before_or_after worked line mid here file (inr after) =
    front_read worked (worked ++ line ∷ []) file (line ∷ [], refl)
    (after ∙ ap (λ (lines : List (List ℕ)). intact (lines ++ line ∷ [])) (lines_read mid.seen worked here))

-- also where an append failed
pub failed_first : (journal worked : List (List ℕ)) (line : List ℕ) (opened mid new : Told) → length journal ≤ length worked
    → Stands journal worked opened mid → LeavesOnly mid new (IsBeforeOrAfter (reading mid.seen).lines line)
    → ((t : ℕ) (file : List ℕ) → t ≤ new.moment → new.may_leave file → new.left_since t file) → HoldsFirst worked new
failed_first journal worked line opened mid new le x step counts file may =
    before_or_after worked line mid (reads_worked journal worked opened mid le x) file
    (step.each file (counts mid.moment file step.later may))
