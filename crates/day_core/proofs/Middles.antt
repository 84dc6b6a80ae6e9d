-- A day's script from line to line.
use Rattle.std.proofs.Common.{◌≡◌, ℕ, ◌+◌, ◌-◌, ◌^◌, ◌≤◌, ◌<◌, nat_lt, Bool, true, false, List, [], ◌∷◌, ◌++◌, length, take, Option, Some, slice_get, refl, sym, ◌∙◌, ap, subst, append_assoc, arith, length-append}
use Rattle.std.specs.Io.KnownBytes.{Consumes}
use Rattle.std.proofs.KnownBytes.{Consumes-nil}
use Rattle.venue_words.specs.Floors.{SymbolView}
use Rattle.venue_words.specs.declared.limits.TheConstants.{MAX_DAY_BYTES}
use Rattle.day_journal.specs.Disk.{Told}
use Rattle.day_journal.specs.Log.{reading, intact, size_of}
use Rattle.day_journal.specs.LogView.{LogView}
use Rattle.line_reader.specs.Reading.{Reading, before_lines}
use Rattle.line_reader.specs.ReadingLaws.{taken_more}
use Rattle.line_reader.specs.NextLines.{HandsOut}
use Rattle.replay_core.specs.Histories.{place_behind}
use Rattle.replay_core.specs.Play.{Place, start, played}
use Rattle.replay_core.specs.Reading.{IsAtPlace}
use Rattle.replay_core.specs.Telling.{Seen, Leads}
use Rattle.replay_core.specs.declared.phase.Phase.{Phase}
use Rattle.replay_core.proofs.Leading.{leads_none, leads_trans}
use Rattle.replay_core.proofs.LineByLine.{line_leads}
use Rattle.script_text.specs.Lines.{cut}
use Rattle.day_core.specs.Agreement.{IsFront, kept}
use Rattle.day_core.specs.Crashes.{Holds}
use Rattle.day_core.specs.Days.{lines_of}
use Rattle.day_core.specs.Keeping.{IsKept, IsNew, IsNotKept}
use Rattle.day_core.specs.declared.status.DayStatus.{DayStatus}
use Rattle.day_core.specs.Middle.{AtLine, InDay, IsDayLine, PutsLine, Stands}
use Rattle.day_core.proofs.Cuts.{lines_push, rest_push, size_within}
use Rattle.day_core.proofs.Fronts.{front_all, front_none, front_push, had_next, kept_past, past_front, past_take}
use Rattle.day_core.proofs.Refused.{push_behind}
use Rattle.day_core.proofs.Standing.{stands_start, stands_next, size_next, unspent_next, honest_next}

pub line_more : (worked line more : List ℕ) → (worked ++ (line ++ 10 ∷ [])) ++ more ≡ worked ++ (line ++ 10 ∷ more)
line_more worked line more =
    append_assoc worked (line ++ 10 ∷ []) more ∙ ap (λ (t : List ℕ). worked ++ t) (append_assoc line (10 ∷ []) more)

pub line_size : (worked line : List ℕ) → length (worked ++ (line ++ 10 ∷ [])) ≡ length worked + length line + 1
line_size worked line =
    let all = length-append worked (line ++ 10 ∷ []) in
    let end = length-append line (10 ∷ []) in
    omega (arith, all, end)

-- what was worked goes on by a line
pub leads_line : (old t u : Seen) (worked line : List ℕ) (place next : Place) → Leads old t (λ more. played start (worked ++ more)) (played place)
    → Leads t u (λ more. played place (line ++ 10 ∷ more)) (played next)
    → Leads old u (λ more. played start ((worked ++ (line ++ 10 ∷ [])) ++ more)) (played next)
leads_line old t u worked line place next x y =
    leads_trans old t u (λ more. played start ((worked ++ (line ++ 10 ∷ [])) ++ more)) (λ more. played place (line ++ 10 ∷ more)) (played next) (record {
      done = x.done;
      grew = x.grew;
      spent = x.spent;
      counted = x.counted;
      goes = λ more. ap (played start) (line_more worked line more) ∙ x.goes (line ++ 10 ∷ more);
    }) y

-- ---- a line that was handed out

pub line_at : {F : Type 0} (at : F → ℕ → SymbolView) (first before left : Option (List ℕ)) (old t : Seen) (reader next : Reading)
    (phase : Phase F) (journal : List (List ℕ)) (worked line : List ℕ) (is_over : Bool) (n : ℕ)
    (x : InDay at first before old t reader phase journal worked) → HandsOut reader next before left line is_over
    → n ≡ reader.lines → reader.most ≡ MAX_DAY_BYTES → IsDayLine (n + 1) line is_over x.place
line_at at first before left old t reader next phase journal worked line is_over n x h same most = record {
  counted = ap (λ (k : ℕ). k + 1) (same ∙ x.lines_are);
  over = h.over ∙ ap (λ (k : ℕ). nat_lt k next.bytes) most ∙ ap (λ (r : Reading). nat_lt MAX_DAY_BYTES r.bytes) h.next
      ∙ ap (λ (k : ℕ). nat_lt MAX_DAY_BYTES (k + length line + 1)) x.bytes_are;
  within = omega (arith, x.within, x.bytes_are);
}

-- as far as the journal's lines go they are the script's
pub agrees_next : (journal worked : List (List ℕ)) (line : List ℕ) (is_new : Bool) → IsNew journal (length worked + 1) line is_new
    → IsFront (take (length worked) journal) worked → IsFront (take (length (worked ++ line ∷ [])) journal) (worked ++ line ∷ [])
agrees_next journal worked line true less x =
    let count : length (worked ++ line ∷ []) ≡ length worked + 1 = length-append worked (line ∷ []) in
    let le : length journal ≤ length worked = omega (arith, less) in
    subst (λ (l : List (List ℕ)). IsFront l (worked ++ line ∷ [])) (sym (past_take journal (length (worked ++ line ∷ [])) (omega (arith, count, le))))
    (front_push journal worked (line ∷ []) (past_front journal worked x le))
agrees_next journal worked line false had x =
    let count : length (worked ++ line ∷ []) ≡ length worked + 1 = length-append worked (line ∷ []) in
    let place : length worked + 1 - 1 ≡ length worked = omega arith in
    let there : slice_get journal (length worked) ≡ Some line = ap (λ (k : ℕ). slice_get journal k) (sym place) ∙ had in
    subst (λ (l : List (List ℕ)). IsFront l (worked ++ line ∷ []))
    (sym (ap (λ (k : ℕ). take k journal) count ∙ had_next journal worked line x there)) (front_all (worked ++ line ∷ []))

pub day_next : {F : Type 0} (at : F → ℕ → SymbolView) (first before left : Option (List ℕ)) (old t u : Seen) (reader next : Reading)
    (phase behind : Phase F) (journal : List (List ℕ)) (worked line : List ℕ) (is_over is_new : Bool)
    (x : InDay at first before old t reader phase journal worked) → HandsOut reader next before left line is_over
    → PutsLine at t u x.place line behind → IsNew journal (length (lines_of worked) + 1) line is_new
    → InDay at first left old u next behind journal (worked ++ (line ++ 10 ∷ []))
day_next at first before left old t u reader next phase behind journal worked line is_over is_new x h y new =
    let lines = ap (λ (r : Reading). r.lines) h.next in
    let bytes = ap (λ (r : Reading). r.bytes) h.next in
    let pushed : lines_of (worked ++ (line ++ 10 ∷ [])) ≡ lines_of worked ++ line ∷ [] = lines_push worked line x.whole h.clear in
    let count : length (lines_of worked ++ line ∷ []) ≡ length (lines_of worked) + 1 = length-append (lines_of worked) (line ∷ []) in
    record {
      place = y.took.next;
      there = y.took.behind.there;
      lines_are = lines ∙ ap (λ (n : ℕ). n + 1) x.lines_are ∙ sym y.took.behind.lines;
      bytes_are = bytes ∙ ap (λ (n : ℕ). n + length line + 1) x.bytes_are ∙ sym y.took.behind.bytes;
      taken = subst (Consumes first left) (sym (line_more worked line next.held))
          (taken_more first before left worked reader.held (line ++ 10 ∷ next.held) x.taken h.reads);
      leads = leads_line old t u worked line x.place y.took.next x.leads
          (line_leads t u x.place y.took.next line y.took.text h.clear y.took.step y.took.steps y.grew);
      whole = rest_push worked line x.whole h.clear;
      behind = ap (λ (l : List (List ℕ)). place_behind start l) pushed
          ∙ push_behind start x.place y.took.next (lines_of worked) line y.took.text x.behind y.took.step;
      count = ap length pushed ∙ count ∙ ap (λ (n : ℕ). n + 1) x.count ∙ sym lines;
      bytes = line_size worked line ∙ ap (λ (n : ℕ). n + length line + 1) x.bytes ∙ sym bytes;
      within = omega (arith, bytes, x.bytes_are, y.took.behind.bytes, y.took.within);
      agrees = subst (λ (l : List (List ℕ)). IsFront (take (length l) journal) l) (sym pushed)
          (agrees_next journal (lines_of worked) line is_new new x.agrees);
    }

pub at_next : {F D : Type 0} (at : F → ℕ → SymbolView) (told : D → Told) (first before left : Option (List ℕ)) (old t u : Seen) (reader next : Reading)
    (phase behind : Phase F) (journal : List (List ℕ)) (opened : Told) (log then : LogView D) (line : List ℕ) (is_over : Bool)
    (x : AtLine at told first before old t reader phase journal opened log) → (opened.honest ≡ true → reading opened.seen ≡ intact journal)
    → HandsOut reader next before left line is_over → PutsLine at t u x.day.place line behind
    → IsKept told journal log then (reader.lines + 1) line → AtLine at told first left old u next behind journal opened then
at_next at told first before left old t u reader next phase behind journal opened log then line is_over x found h y step =
    let pushed : lines_of (x.worked ++ (line ++ 10 ∷ [])) ≡ lines_of x.worked ++ line ∷ [] = lines_push x.worked line x.day.whole h.clear in
    let here : IsKept told journal log then (length (lines_of x.worked) + 1) line =
    subst (λ (n : ℕ). IsKept told journal log then (n + 1) line) (sym x.day.count) step in
    record {
      worked = x.worked ++ (line ++ 10 ∷ []);
      day = day_next at first before left old t u reader next phase behind journal x.worked line is_over here.0 x.day h y here.1;
      unspent = unspent_next told journal (length (lines_of x.worked) + 1) line log then x.unspent here;
      size = size_next told journal (lines_of x.worked) line log then x.size here
          ∙ ap (λ (l : List (List ℕ)). size_of (kept journal l)) (sym pushed);
      honest = honest_next told journal (length (lines_of x.worked) + 1) line log then here ∙ x.honest;
      stands = λ honest. subst (λ (l : List (List ℕ)). Stands journal l opened (told then.disk)) (sym pushed)
          (stands_next told journal (lines_of x.worked) line opened log then (found honest)
          (past_front journal (lines_of x.worked) x.day.agrees) (x.honest ∙ honest) (x.stands honest) here);
    }

-- what became of the journal at a line, by the same lines and the same number
pub kept_at : {D : Type 0} (told : D → Told) (had journal : List (List ℕ)) (log then : LogView D) (n m : ℕ) (line : List ℕ) → had ≡ journal → n ≡ m
    → IsKept told had log then (n + 1) line → IsKept told journal log then (m + 1) line
kept_at told had journal log then n m line e same x =
    subst (λ (k : ℕ). IsKept told journal log then (k + 1) line) same (subst (λ (l : List (List ℕ)). IsKept told l log then (n + 1) line) e x)

pub not_kept_at : {D : Type 0} (told : D → Told) (had journal : List (List ℕ)) (log then : LogView D) (n m : ℕ) (line : List ℕ) (status : DayStatus)
    → had ≡ journal → n ≡ m → IsNotKept told had log then (n + 1) line status → IsNotKept told journal log then (m + 1) line status
not_kept_at told had journal log then n m line status e same x =
    subst (λ (k : ℕ). IsNotKept told journal log then (k + 1) line status) same
    (subst (λ (l : List (List ℕ)). IsNotKept told l log then (n + 1) line status) e x)

-- there is room for a line that the journal did not have
pub room : {F D : Type 0} (at : F → ℕ → SymbolView) (told : D → Told) (first left : Option (List ℕ)) (old t : Seen) (reader : Reading)
    (phase : Phase F) (journal : List (List ℕ)) (opened : Told) (log : LogView D)
    (x : AtLine at told first left old t reader phase journal opened log) → length journal < reader.lines + 1 → log.size < 2 ^ 62
room at told first left old t reader phase journal opened log x less =
    let le : length journal ≤ length (lines_of x.worked) = omega (arith, less, x.day.count) in
    let size : log.size ≡ size_of (lines_of x.worked) = x.size ∙ ap size_of (kept_past journal (lines_of x.worked) le) in
    omega (arith, size, size_within x.worked, x.day.bytes, x.day.within)

-- ---- at the start

pub at_start : {F D : Type 0} (at : F → ℕ → SymbolView) (told : D → Told) (left : Option (List ℕ)) (t : Seen) (reader : Reading)
    (phase : Phase F) (journal : List (List ℕ)) (log : LogView D) → reader ≡ before_lines 0 MAX_DAY_BYTES → IsAtPlace at phase start
    → log.spent ≡ false → log.size ≡ size_of journal → ((told log.disk).honest ≡ true → Holds journal (told log.disk))
    → ((told log.disk).honest ≡ true → (file : List ℕ) → (told log.disk).left_since (told log.disk).moment file → (told log.disk).may_leave file)
    → AtLine at told left left t t reader phase journal (told log.disk) log
unfolding cut place_behind
at_start at told left t reader phase journal log e there unspent size holds now =
    let lines = ap (λ (r : Reading). r.lines) e in
    let bytes = ap (λ (r : Reading). r.bytes) e in
    record {
      worked = [];
      day = record {
        place = start;
        there = there;
        lines_are = lines;
        bytes_are = bytes;
        taken = subst (Consumes left left) (sym (ap (λ (r : Reading). r.held) e)) (Consumes-nil left);
        leads = leads_none t (played start);
        whole = refl;
        behind = refl;
        count = sym lines;
        bytes = sym bytes;
        within = omega (arith, bytes);
        agrees = front_none [];
      };
      unspent = unspent;
      size = size;
      honest = refl;
      stands = λ honest. stands_start journal (told log.disk) (holds honest) (now honest);
    }
