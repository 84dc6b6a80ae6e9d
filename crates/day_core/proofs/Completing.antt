-- Where nothing fails, a whole script comes to its end.
use Rattle.std.proofs.Common.{◌≡◌, ◌⊎◌, ℕ, true, false, List, [], take, drop, Option, Some, None, IfSome, unwrap_or, option_map, refl, sym, ◌∙◌, ap, subst, inl, inr}
use Rattle.std.proofs.lemmas.List.{take-append-drop}
use Rattle.venue_words.specs.Causes.{Rose}
use Rattle.day_journal.specs.Disk.{Told}
use Rattle.day_journal.specs.Log.{reading}
use Rattle.io_edge.specs.Files.{Files}
use Rattle.replay_core.specs.Causes.{bytes_named}
use Rattle.replay_core.specs.Telling.{Seen}
use Rattle.day_core.specs.Agreement.{IsFront}
use Rattle.day_core.specs.DayFiles.{DayFiles, IsScript, files_of, script_named}
use Rattle.day_core.specs.Days.{Ends, Ran, lines_of}
use Rattle.day_core.specs.Refusing.{Refusal, refusal}
use Rattle.day_core.specs.Statuses.{IsTold}
use Rattle.day_core.specs.declared.status.DayStatus.{DayStatus}
use Rattle.day_core.specs.declared.status.DayStatus.TheVariants.{Done, BadWords, BadLine, LimitLine, Differs, Damaged, DiskFault, ReadFault, WriteFault, NoMemory}
use Rattle.day_core.proofs.Fronts.{front_trans}

-- nothing of the outside failed
record NoFault (status : DayStatus) : Type 0 where
  pub words : status ≡ BadWords → ⊥
  pub read : status ≡ ReadFault → ⊥
  pub write : status ≡ WriteFault → ⊥
  pub disk : status ≡ DiskFault → ⊥

apart : (why : Refusal) (r : Option Refusal) → r ≡ None → r ≡ Some why → ⊥
apart why None none some = cc
apart why (Some other) none some = cc

ran_whole : (bytes : List ℕ) (left : Option (List ℕ)) (begun ended : Told) (old new : Seen) (status : DayStatus) → Ran bytes left begun ended old new status
    → begun.honest ≡ true → (reading begun.seen).damaged ≡ false → refusal bytes ≡ None → IsFront (reading begun.seen).lines (lines_of bytes)
    → NoFault status → (status ≡ Done) ⊎ (status ≡ NoMemory)
ran_whole bytes left begun ended old new Done x honest sound whole front fine = inl refl
ran_whole bytes left begun ended old new NoMemory x honest sound whole front fine = inr refl
ran_whole bytes left begun ended old new BadWords x honest sound whole front fine = absurd (fine.words refl)
ran_whole bytes left begun ended old new (BadLine n cause) x honest sound whole front fine = absurd (apart _ (refusal bytes) whole x.worked.cause)
ran_whole bytes left begun ended old new (LimitLine n which) x honest sound whole front fine = absurd (apart _ (refusal bytes) whole x.worked.cause)
ran_whole bytes left begun ended old new (Differs n) x honest sound whole front fine =
    let journal = (reading begun.seen).lines in
    absurd ((x.journal honest).agrees.there (front_trans (take n journal) journal (lines_of bytes) (drop n journal, sym (take-append-drop n journal)) front))
ran_whole bytes left begun ended old new (Damaged at) x honest sound whole front fine =
    absurd (let damaged = (x.journal honest).found.0 in let both : true ≡ false = sym damaged ∙ sound in cc)
ran_whole bytes left begun ended old new DiskFault x honest sound whole front fine = absurd (fine.disk refl)
ran_whole bytes left begun ended old new ReadFault x honest sound whole front fine = absurd (fine.read refl)
ran_whole bytes left begun ended old new WriteFault x honest sound whole front fine = absurd (fine.write refl)

same_bytes : (files : Option Files) (name : Option (List ℕ)) (bytes all : List ℕ) → IsScript files name bytes
    → bytes_named files name ≡ Some all → bytes ≡ all
same_bytes None name bytes all x e = absurd (cc)
same_bytes (Some files) name bytes all x e = x ∙ ap (λ (o : Option (List ℕ)). unwrap_or o []) e

-- words without a form name no script
no_name : (files : Option Files) (words : List (List ℕ)) (all : List ℕ) → bytes_named files (script_named words) ≡ Some all → files_of words ≡ None → ⊥
no_name None words all e none = cc
no_name (Some files) words all e none =
    let name : script_named words ≡ None = ap (λ (o : Option DayFiles). option_map (λ f. f.script) o) none in
    let gone = ap (λ (o : Option (List ℕ)). bytes_named (Some files) o) name in
    cc

told_whole : (files : Option Files) (words : List (List ℕ)) (left : Option (List ℕ)) (begun ended : Told) (old new : Seen) (status result : DayStatus)
    (told now : Option (List ℕ)) (before after : ℕ) (all : List ℕ) → Ends files words left begun ended old new status
    → IsTold status result told now before after → (Rose before after → ⊥)
    → (result ≡ ReadFault → ⊥) → (result ≡ WriteFault → ⊥) → (result ≡ DiskFault → ⊥) → begun.honest ≡ true → (reading begun.seen).damaged ≡ false
    → bytes_named files (script_named words) ≡ Some all → refusal all ≡ None → IsFront (reading begun.seen).lines (lines_of all)
    → (result ≡ Done) ⊎ (result ≡ NoMemory)
told_whole files words left begun ended old new status result told now before after all x (inr failed) calm read write disk honest sound named whole front =
    absurd (calm failed.2)
told_whole files words left begun ended old new status result told now before after all x (inl same) calm read write disk honest sound named whole front =
    let bytes : x.bytes ≡ all = same_bytes files (script_named words) x.bytes all x.script named in
    subst (λ (s : DayStatus). (s ≡ Done) ⊎ (s ≡ NoMemory)) (sym same.0)
    (ran_whole all left begun ended old new status (subst (λ (b : List ℕ). Ran b left begun ended old new status) bytes x.ran) honest sound whole front (record {
      words = λ e. no_name files words all named (x.bad_words e);
      read = λ e. read (same.0 ∙ e);
      write = λ e. write (same.0 ∙ e);
      disk = λ e. disk (same.0 ∙ e);
    }))

pub whole_day : (files : Option Files) (words : List (List ℕ)) (left : Option (List ℕ)) (begun ended : Told) (old new : Seen) (status result : DayStatus)
    (told now : Option (List ℕ)) (before after : ℕ) (name : Option (List ℕ)) → name ≡ bytes_named files (script_named words)
    → Ends files words left begun ended old new status
    → IsTold status result told now before after → (Rose before after → ⊥)
    → (result ≡ ReadFault → ⊥) → (result ≡ WriteFault → ⊥) → (result ≡ DiskFault → ⊥) → begun.honest ≡ true → (reading begun.seen).damaged ≡ false
    → IfSome name (λ bytes. refusal bytes ≡ None → IsFront (reading begun.seen).lines (lines_of bytes) → (result ≡ Done) ⊎ (result ≡ NoMemory))
whole_day files words left begun ended old new status result told now before after None e x same calm read write disk honest sound = tt
whole_day files words left begun ended old new status result told now before after (Some all) e x same calm read write disk honest sound =
    λ whole front. told_whole files words left begun ended old new status result told now before after all x same calm read write disk honest sound (sym e) whole front
