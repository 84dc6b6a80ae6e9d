-- Before a script is worked, and around it.
use Rattle.std.proofs.Common.{◌≡◌, ℕ, ◌≤◌, true, false, List, [], Option, Some, None, IfSome, IsSome, IsNone, unwrap_or, option_map, refl, sym, ◌∙◌, ap, subst, inl, inr, arith}
use Rattle.day_journal.specs.Disk.{Told, Only, LeavesOnly, Unchanged}
use Rattle.day_journal.specs.DiskLaws.{stays, weaker, goes_on}
use Rattle.day_journal.specs.Log.{Reading, reading, intact}
use Rattle.day_journal.specs.LogView.{LogView}
use Rattle.day_journal.specs.Refusals.{IfDamaged, ReadsAsOne}
use Rattle.day_journal.specs.declared.refusal.OpenRefusal.{OpenRefusal}
use Rattle.day_journal.specs.declared.refusal.OpenRefusal.TheVariants as opening
use Rattle.io_edge.specs.Files.{Files, Opens, file_named}
use Rattle.program_words.specs.declared.WordFault.{WordFault}
use Rattle.program_words.specs.declared.WordFault.TheVariants as word
use Rattle.replay_core.specs.Causes.{bytes_named}
use Rattle.replay_core.specs.Histories.{place_behind}
use Rattle.replay_core.specs.Play.{start, script, played, play, end_at}
use Rattle.replay_core.specs.Telling.{Seen}
use Rattle.replay_core.proofs.Leading.{appends_none}
use Rattle.script_text.specs.Lines.{cut}
use Rattle.std.specs.Io.KnownBytes.{Appends}
use Rattle.day_core.specs.Agreement.{Agrees, IsFront}
use Rattle.day_core.specs.Crashes.{Found, Follows, Holds, HoldsFirst, Stored}
use Rattle.day_core.specs.DayFiles.{DayFiles, IsScript, LacksScript, files_of, script_named}
use Rattle.day_core.specs.Days.{Cause, Ends, IsEarly, Journaled, Output, Ran, Worked, lines_of}
use Rattle.day_core.specs.Keeping.{Continued, ReadAs}
use Rattle.day_core.specs.Middle.{IsLate, RanFile}
use Rattle.day_core.specs.Opening.{HasLines, IsNotOpened, IsOpened, IsOpening, RanFiles, RanScript}
use Rattle.day_core.specs.Statuses.{opening_refused, words_refused}
use Rattle.day_core.specs.declared.status.DayStatus.{DayStatus}
use Rattle.day_core.specs.declared.status.DayStatus.TheVariants.{Done, BadWords, BadLine, LimitLine, Differs, Damaged, DiskFault, ReadFault, WriteFault, NoMemory}
use Rattle.day_core.proofs.Fronts.{front_none}
use Rattle.day_core.proofs.Standing.{follows_more, stands_start}

none_some : (o : Option (List ℕ)) → o ≡ None → IsSome o → ⊥
none_some None e x = cc
none_some (Some all) e x = cc

-- ---- the journal is opened

begun_leaves : (start begun : Told) → Unchanged start begun → start.honest ≡ true → LeavesOnly start begun (ReadsAsOne start.may_leave)
begun_leaves start begun x honest =
    weaker start begun start.may_leave (ReadsAsOne start.may_leave) (x.crash honest) (λ file may. (file, may, refl))

opened_leaves : (start begun now : Told) → Unchanged start begun → start.honest ≡ true
    → ((t : ℕ) (file : List ℕ) → t ≤ begun.moment → begun.may_leave file → begun.left_since t file)
    → LeavesOnly begun now (ReadsAsOne begun.may_leave) → LeavesOnly start now (ReadsAsOne start.may_leave)
opened_leaves start begun now x honest counts step =
    let first = x.crash honest in
    goes_on start begun now (ReadsAsOne start.may_leave) (ReadsAsOne begun.may_leave) (begun_leaves start begun x honest) step
    (λ file one. (one.0, first.each one.0 (counts start.moment one.0 first.later one.1), one.2))

pub not_begun : (start begun : Told) → Unchanged start begun → IsNotOpened start begun DiskFault
not_begun start begun x = record { opening = tt; found = λ honest. tt; crash = begun_leaves start begun x }

is_opening : (refusal : OpenRefusal) → IsOpening (opening_refused refusal)
is_opening opening.DiskFault = tt
is_opening (opening.Damaged at) = tt
is_opening opening.NoMemory = tt

found_opening : (found : Reading) (refusal : OpenRefusal) → IfDamaged found refusal → Found found (opening_refused refusal)
found_opening found opening.DiskFault x = tt
found_opening found (opening.Damaged at) x = x
found_opening found opening.NoMemory x = tt

pub not_opened : (start begun now : Told) (refusal : OpenRefusal) → Unchanged start begun
    → (begun.honest ≡ true → (t : ℕ) (file : List ℕ) → t ≤ begun.moment → begun.may_leave file → begun.left_since t file)
    → (begun.honest ≡ true → IfDamaged (reading begun.seen) refusal)
    → (begun.honest ≡ true → LeavesOnly begun now (ReadsAsOne begun.may_leave)) → IsNotOpened start now (opening_refused refusal)
not_opened start begun now refusal x counts damaged crash = record {
  opening = is_opening refusal;
  found = λ honest.
      let h = x.honest ∙ honest in
      subst (λ (file : List ℕ). Found (reading file) (opening_refused refusal)) (x.seen honest) (found_opening (reading begun.seen) refusal (damaged h));
  crash = λ honest.
      let h = x.honest ∙ honest in
      opened_leaves start begun now x honest (counts h) (crash h);
}

pub has_lines : (lines : List (List ℕ)) (start begun now : Told) → Unchanged start begun → start.honest ≡ true
    → ((t : ℕ) (file : List ℕ) → t ≤ begun.moment → begun.may_leave file → begun.left_since t file)
    → reading begun.seen ≡ intact lines → reading now.seen ≡ intact lines → Only now.seen now.may_leave
    → LeavesOnly begun now (ReadsAsOne begun.may_leave) → HasLines lines start now
has_lines lines start begun now x honest counts was is only crash = record {
  found = ap reading (sym (x.seen honest)) ∙ was;
  holds = record { reads = is; durable = only };
  crash = opened_leaves start begun now x honest counts crash;
}

-- ---- no script is worked

-- the bytes of the script, or none
abbrev the_script : Option Files → Option (List ℕ) → List ℕ
the_script None name = []
the_script (Some files) name = unwrap_or (bytes_named (Some files) name) []

is_script : (files : Option Files) (name : Option (List ℕ)) → IsScript files name (the_script files name)
is_script None name = tt
is_script (Some files) name = refl

nothing_put : (t : Option (List ℕ)) → Appends t t (script []).text
unfolding played play cut end_at
nothing_put t = appends_none t

-- nothing was worked
unworked : (bytes : List ℕ) (left : Option (List ℕ)) (t : Seen) (status : DayStatus) → (Appends t.told t.told (script []).text → Output status t.told t.told [])
    → Cause bytes [] left status → Worked bytes [] left t t status
unfolding cut place_behind
unworked bytes left t status output cause = record {
  rest = bytes;
  whole = refl;
  lines = refl;
  taken = refl;
  within = omega arith;
  output = output (nothing_put t.told);
  cause = cause;
  steps = omega arith;
}

none_given : (files : Option Files) (given : List ℕ) → given ≡ [] → IfSome files (λ _. given ≡ [])
none_given None given none = tt
none_given (Some files) given none = none

no_lines : lines_of [] ≡ []
unfolding cut
no_lines = refl

first_none : (now : Told) → HoldsFirst (lines_of []) now
unfolding cut
first_none now file may = front_none (reading file).lines

late_start : (journal lines : List (List ℕ)) (opened : Told) (status : DayStatus) → Holds journal opened
    → ((file : List ℕ) → opened.left_since opened.moment file → opened.may_leave file)
    → Agrees journal lines (lines_of []) status → Stored journal (lines_of []) opened status
    → Continued journal lines (lines_of []) opened opened status
late_start journal lines opened status holds now agrees stored = record {
  agrees = agrees;
  stored = stored;
  crash = weaker opened opened (Follows [] (ReadAs journal)) (Follows lines (ReadAs journal)) (stands_start journal opened holds now).crash
      (follows_more [] lines (ReadAs journal) (front_none lines));
}

pub script_no_memory : (files : Option Files) (name : List ℕ) (left : Option (List ℕ)) (journal : List (List ℕ)) (opened : Told) (t : Seen)
    → (opened.honest ≡ true → Holds journal opened)
    → (opened.honest ≡ true → (file : List ℕ) → opened.left_since opened.moment file → opened.may_leave file)
    → RanScript files name left journal opened opened t t NoMemory
script_no_memory files name left journal opened t holds now = record {
  bytes = the_script files (Some name);
  script = is_script files (Some name);
  given = [];
  worked = unworked (the_script files (Some name)) left t NoMemory (λ grew. grew) tt;
  continued = λ honest. late_start journal (lines_of (the_script files (Some name))) opened NoMemory (holds honest) (now honest) tt (first_none opened);
  late = tt;
  unopened = λ _ _. none_given files [] refl;
  missing = λ _. (tt, refl);
}

kept_start : (journal : List (List ℕ)) (opened : Told) → Holds journal opened → Stored journal (lines_of []) opened ReadFault
unfolding cut
kept_start journal opened holds = holds

not_there : (left : Option (List ℕ)) (bytes : List ℕ) → left ≡ None → Cause bytes [] left ReadFault
not_there None bytes none = tt
not_there (Some rest) bytes none = absurd (cc)

pub script_not_begun : (files : Option Files) (name : List ℕ) (left : Option (List ℕ)) (journal : List (List ℕ)) (opened : Told) (t : Seen)
    → (opened.honest ≡ true → Holds journal opened)
    → (opened.honest ≡ true → (file : List ℕ) → opened.left_since opened.moment file → opened.may_leave file)
    → left ≡ None → RanScript files name left journal opened opened t t ReadFault
script_not_begun files name left journal opened t holds now closed = record {
  bytes = the_script files (Some name);
  script = is_script files (Some name);
  given = [];
  worked = unworked (the_script files (Some name)) left t ReadFault (λ grew. grew) (not_there left (the_script files (Some name)) closed);
  continued = λ honest. late_start journal (lines_of (the_script files (Some name))) opened ReadFault (holds honest) (now honest) tt
      (kept_start journal opened (holds honest));
  late = tt;
  unopened = λ _ _. none_given files [] refl;
  missing = λ _. (tt, refl);
}

-- ---- the script was begun

begun_script : (files : Option Files) (name : List ℕ) (left : Option (List ℕ)) (bytes : List ℕ) → Opens files name left
    → IfSome left (λ all. bytes ≡ all) → IsScript files (Some name) bytes
begun_script None name left bytes x told = tt
begun_script (Some files) name None bytes x told = absurd (none_some (file_named files name) (sym x.1) x.0)
begun_script (Some files) name (Some all) bytes x told = told ∙ ap (λ (o : Option (List ℕ)). unwrap_or o []) x.1

some_none : (o : Option (List ℕ)) → IsSome o → IsNone o → ⊥
some_none None some none = cc
some_none (Some all) some none = cc

not_missing : (files : Option Files) (name : List ℕ) (left : Option (List ℕ)) → Opens files name left → LacksScript files (Some name) → ⊥
not_missing None name left x lacks = lacks
not_missing (Some files) name left x lacks = some_none (file_named files name) x.0 lacks.1

-- a file that was begun is open
opened_there : (files : Option Files) (name : List ℕ) (left unread : Option (List ℕ)) (given : List ℕ) → Opens files name left
    → IfSome left (λ _. IsSome unread) → IsNone unread → IfSome files (λ _. given ≡ [])
opened_there None name left unread given x there none = tt
opened_there (Some files) name None unread given x there none = absurd (none_some (file_named files name) (sym x.1) x.0)
opened_there (Some files) name (Some all) unread given x there none = absurd (some_none unread there none)

pub script_begun : (files : Option Files) (name : List ℕ) (left unread : Option (List ℕ)) (journal : List (List ℕ)) (opened now : Told)
    (old new : Seen) (status : DayStatus) → Opens files name left → RanFile left unread journal opened now old new status
    → RanScript files name unread journal opened now old new status
script_begun files name left unread journal opened now old new status x ran = record {
  bytes = ran.bytes;
  script = begun_script files name left ran.bytes x ran.told;
  given = ran.given;
  worked = ran.worked;
  continued = ran.continued;
  late = ran.late;
  unopened = λ _ none. opened_there files name left unread ran.given x ran.still_told none;
  missing = λ lacks. absurd (not_missing files name left x lacks);
}

-- ---- the journal and the script

opening_output : (status : DayStatus) (t : Option (List ℕ)) → IsOpening status → Appends t t (script []).text → Output status t t []
opening_output DiskFault t x grew = grew
opening_output (Damaged at) t x grew = grew
opening_output NoMemory t x grew = grew
opening_output Done t x grew = absurd x
opening_output BadWords t x grew = absurd x
opening_output (BadLine n cause) t x grew = absurd x
opening_output (LimitLine n which) t x grew = absurd x
opening_output (Differs n) t x grew = absurd x
opening_output ReadFault t x grew = absurd x
opening_output WriteFault t x grew = absurd x

opening_cause : (status : DayStatus) (bytes : List ℕ) (left : Option (List ℕ)) → IsOpening status → Cause bytes [] left status
opening_cause DiskFault bytes left x = tt
opening_cause (Damaged at) bytes left x = refl
opening_cause NoMemory bytes left x = tt
opening_cause Done bytes left x = absurd x
opening_cause BadWords bytes left x = absurd x
opening_cause (BadLine n cause) bytes left x = absurd x
opening_cause (LimitLine n which) bytes left x = absurd x
opening_cause (Differs n) bytes left x = absurd x
opening_cause ReadFault bytes left x = absurd x
opening_cause WriteFault bytes left x = absurd x

opening_agrees : (status : DayStatus) (journal lines : List (List ℕ)) → IsOpening status → Agrees journal lines (lines_of []) status
opening_agrees DiskFault journal lines x = tt
opening_agrees (Damaged at) journal lines x = tt
opening_agrees NoMemory journal lines x = tt
opening_agrees Done journal lines x = absurd x
opening_agrees BadWords journal lines x = absurd x
opening_agrees (BadLine n cause) journal lines x = absurd x
opening_agrees (LimitLine n which) journal lines x = absurd x
opening_agrees (Differs n) journal lines x = absurd x
opening_agrees ReadFault journal lines x = absurd x
opening_agrees WriteFault journal lines x = absurd x

opening_stored : (status : DayStatus) (journal : List (List ℕ)) (now : Told) → IsOpening status → HoldsFirst (lines_of []) now
    → Stored journal (lines_of []) now status
opening_stored DiskFault journal now x first = first
opening_stored (Damaged at) journal now x first = first
opening_stored NoMemory journal now x first = first
opening_stored Done journal now x first = absurd x
opening_stored BadWords journal now x first = absurd x
opening_stored (BadLine n cause) journal now x first = absurd x
opening_stored (LimitLine n which) journal now x first = absurd x
opening_stored (Differs n) journal now x first = absurd x
opening_stored ReadFault journal now x first = absurd x
opening_stored WriteFault journal now x first = absurd x

opening_early : (status : DayStatus) → IsOpening status → IsEarly status
opening_early DiskFault x = tt
opening_early (Damaged at) x = tt
opening_early NoMemory x = tt
opening_early Done x = absurd x
opening_early BadWords x = absurd x
opening_early (BadLine n cause) x = absurd x
opening_early (LimitLine n which) x = absurd x
opening_early (Differs n) x = absurd x
opening_early ReadFault x = absurd x
opening_early WriteFault x = absurd x

pub files_not_opened : (files : Option Files) (name : List ℕ) (left : Option (List ℕ)) (start now : Told) (t : Seen) (status : DayStatus) → IsNotOpened start now status
    → RanFiles files name left start now t t status
files_not_opened files name left start now t status x =
    let bytes = the_script files (Some name) in
    record {
      bytes = bytes;
      script = is_script files (Some name);
      ran = record {
        given = [];
        worked = unworked bytes left t status (opening_output status t.told x.opening) (opening_cause status bytes left x.opening);
        journal = λ honest. record {
          found = x.found honest;
          agrees = opening_agrees status (reading start.seen).lines (lines_of bytes) x.opening;
          stored = opening_stored status (reading start.seen).lines now x.opening (first_none now);
          crash = weaker start now (ReadsAsOne start.may_leave) (Follows (lines_of bytes) start.may_leave) (x.crash honest) (λ file one. inl one);
        };
      };
      unopened = λ _ _. none_given files [] refl;
      words = λ e. absurd (subst IsOpening e x.opening);
      missing = λ _. (opening_early status x.opening, refl);
    }

found_late : (found : Reading) (status : DayStatus) → IsLate status → found.damaged ≡ false → Found found status
found_late found Done x e = e
found_late found BadWords x e = absurd x
found_late found (BadLine n cause) x e = e
found_late found (LimitLine n which) x e = e
found_late found (Differs n) x e = e
found_late found (Damaged at) x e = absurd x
found_late found DiskFault x e = tt
found_late found ReadFault x e = e
found_late found WriteFault x e = e
found_late found NoMemory x e = tt

-- what a crash leaves of the journal, as it could have been left at the start
since_start : (journal lines : List (List ℕ)) (start : Told) → reading start.seen ≡ intact journal → start.may_leave start.seen
    → (file : List ℕ) → Follows lines (ReadAs journal) file → Follows lines start.may_leave file
since_start journal lines start found may file (inl one) = inl (start.seen, may, one.2 ∙ one.1 ∙ sym found)
since_start journal lines start found may file (inr grown) = inr (record {
  has = grown.has;
  reads = grown.reads;
  front = grown.front;
  before = start.seen;
  was = may;
  keeps = subst (λ (l : List (List ℕ)). IsFront l grown.has) (ap (λ (r : Reading). r.lines) (grown.was ∙ sym found)) grown.keeps;
})

pub journaled : (journal lines worked : List (List ℕ)) (start opened now : Told) (status : DayStatus) → HasLines journal start opened
    → start.may_leave start.seen → IsLate status → Continued journal lines worked opened now status → Journaled lines worked start now status
journaled journal lines worked start opened now status x may late c =
    let same : journal ≡ (reading start.seen).lines = sym (ap (λ (r : Reading). r.lines) x.found) in
    record {
      found = found_late (reading start.seen) status late (ap (λ (r : Reading). r.damaged) x.found);
      agrees = subst (λ (l : List (List ℕ)). Agrees l lines worked status) same c.agrees;
      stored = subst (λ (l : List (List ℕ)). Stored l worked now status) same c.stored;
      crash = goes_on start opened now (Follows lines start.may_leave) (Follows lines (ReadAs journal))
          (weaker start opened (ReadsAsOne start.may_leave) (Follows lines start.may_leave) x.crash (λ file one. inl one)) c.crash
          (since_start journal lines start x.found may);
    }

pub files_opened : {D : Type 0} (told : D → Told) (files : Option Files) (name : List ℕ) (left : Option (List ℕ)) (disk : D) (log : LogView D) (journal : List (List ℕ))
    (now : Told) (old new : Seen) (status : DayStatus) → IsOpened told disk log journal → ((told disk).honest ≡ true → (told disk).may_leave (told disk).seen)
    → RanScript files name left journal (told log.disk) now old new status → RanFiles files name left (told disk) now old new status
files_opened told files name left disk log journal now old new status x may ran = record {
  bytes = ran.bytes;
  script = ran.script;
  ran = record {
    given = ran.given;
    worked = ran.worked;
    journal = λ honest. journaled journal (lines_of ran.bytes) (lines_of ran.given) (told disk) (told log.disk) now status
        (x.lines_are honest) (may honest) ran.late (ran.continued (x.honest ∙ honest));
  };
  unopened = ran.unopened;
  words = λ e. absurd (subst IsLate e ran.late);
  missing = ran.missing;
}

-- ---- the words

-- the disk was not touched
untouched : (bytes : List ℕ) (left : Option (List ℕ)) (disk : Told) (t : Seen) (status : DayStatus)
    → (disk.honest ≡ true → (file : List ℕ) → disk.left_since disk.moment file → disk.may_leave file)
    → (Appends t.told t.told (script []).text → Output status t.told t.told []) → Cause bytes [] left status
    → Found (reading disk.seen) status → Agrees (reading disk.seen).lines (lines_of bytes) (lines_of []) status
    → Stored (reading disk.seen).lines (lines_of []) disk status → Ran bytes left disk disk t t status
untouched bytes left disk t status now output cause found agrees stored = record {
  given = [];
  worked = unworked bytes left t status output cause;
  journal = λ honest. record {
    found = found;
    agrees = agrees;
    stored = stored;
    crash = stays disk (Follows (lines_of bytes) disk.may_leave) (λ file left. inl (file, now honest file left, refl));
  };
}

no_script : (files : Option Files) (words : List (List ℕ)) → files_of words ≡ None → LacksScript files (script_named words) → ⊥
no_script None words e x = x
no_script (Some files) words e x =
    none_some (script_named words) (ap (λ (o : Option DayFiles). option_map (λ f. f.script) o) e) x.0

pub no_form : (files : Option Files) (words : List (List ℕ)) (left : Option (List ℕ)) (disk : Told) (t : Seen)
    → (disk.honest ≡ true → (file : List ℕ) → disk.left_since disk.moment file → disk.may_leave file)
    → files_of words ≡ None → Ends files words left disk disk t t BadWords
unfolding untouched
no_form files words left disk t now e = record {
  bytes = the_script files (script_named words);
  script = is_script files (script_named words);
  ran = untouched (the_script files (script_named words)) left disk t BadWords now (λ grew. grew) refl tt tt (first_none disk);
  unopened = λ _ _. none_given files [] refl;
  bad_words = λ _. e;
  other_words = λ _. (inl refl, refl);
  missing = λ lacks. absurd (no_script files words e lacks);
}

pub no_memory : (files : Option Files) (words : List (List ℕ)) (left : Option (List ℕ)) (disk : Told) (t : Seen)
    → (disk.honest ≡ true → (file : List ℕ) → disk.left_since disk.moment file → disk.may_leave file) → Ends files words left disk disk t t NoMemory
unfolding untouched
no_memory files words left disk t now = record {
  bytes = the_script files (script_named words);
  script = is_script files (script_named words);
  ran = untouched (the_script files (script_named words)) left disk t NoMemory now (λ grew. grew) tt tt tt (first_none disk);
  unopened = λ _ _. none_given files [] refl;
  bad_words = λ e. absurd (cc);
  other_words = λ _. (inr refl, refl);
  missing = λ _. (tt, refl);
}

pub words_without_form : (files : Option Files) (words : List (List ℕ)) (left : Option (List ℕ)) (disk : Told) (t : Seen) (why : WordFault)
    → (disk.honest ≡ true → (file : List ℕ) → disk.left_since disk.moment file → disk.may_leave file)
    → (why ≡ word.BadWords → files_of words ≡ None) → Ends files words left disk disk t t (words_refused why)
words_without_form files words left disk t word.BadWords now h = no_form files words left disk t now (h refl)
words_without_form files words left disk t word.NoMemory now h = no_memory files words left disk t now

-- the words have the form, and what they name was worked
pub named_files : (files : Option Files) (words : List (List ℕ)) (named : DayFiles) (left : Option (List ℕ)) (begun ended : Told) (old new : Seen)
    (status : DayStatus) → files_of words ≡ Some named → RanFiles files named.script left begun ended old new status
    → Ends files words left begun ended old new status
named_files files words named left begun ended old new status e ran =
    let name : script_named words ≡ Some named.script = ap (λ (o : Option DayFiles). option_map (λ f. f.script) o) e in
    record {
      bytes = ran.bytes;
      script = subst (λ (n : Option (List ℕ)). IsScript files n ran.bytes) (sym name) ran.script;
      ran = ran.ran;
      unopened = ran.unopened;
      bad_words = λ bad. absurd (ran.words bad);
      other_words = λ none. absurd (let both : Some named ≡ None = sym e ∙ none in cc);
      missing = λ lacks. ran.missing (subst (λ (n : Option (List ℕ)). LacksScript files n) name lacks);
    }
