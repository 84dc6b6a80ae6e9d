-- From the middle of a day's script to how the day ends.
use Rattle.std.proofs.Common.{◌≡◌, ℕ, ◌+◌, ◌-◌, ◌≤◌, ◌<◌, nat_le, nat_lt, cond, get_or, Bool, true, false, List, [], ◌∷◌, ◌++◌, length, take, Option, Some, None, IfSome, IsSome, is_some, Ok, Err, slice_get, refl, sym, ◌∙◌, ap, subst, append_assoc, append-nil, arith, length-append}
use Rattle.std.proofs.lemmas.Bool.Decides.{nat_tests}
use Rattle.std.proofs.lemmas.Option.{slice_get-get_or, slice_get_within}
use Rattle.std.proofs.Math.Seq.{take-append-add}
use Rattle.std.specs.Io.KnownBytes.{Appends, Consumes, IsAtEnd}
use Rattle.venue_words.specs.Floors.{SymbolView}
use Rattle.venue_words.specs.declared.limits.TheConstants.{MAX_LINE_BYTES}
use Rattle.day_journal.specs.Disk.{Told, LeavesOnly}
use Rattle.day_journal.specs.DiskLaws.{weaker}
use Rattle.day_journal.specs.Log.{reading, intact}
use Rattle.day_journal.specs.LogView.{LogView}
use Rattle.line_reader.specs.Reading.{Reading}
use Rattle.line_reader.specs.ReadingLaws.{taken_more}
use Rattle.line_reader.specs.NextLines.{HandsOut, IsAllRead, IsTooLong, IsCutOff}
use Rattle.line_reader.specs.NextLaws.{long_front}
use Rattle.replay_core.specs.Histories.{place_behind}
use Rattle.replay_core.specs.Play.{Place, Played, Stage, Head, Body, start, step_at, played, script, onto, end_at, end_of, stopped, after_line}
use Rattle.replay_core.specs.Telling.{Seen}
use Rattle.replay_core.specs.declared.phase.Phase.{Phase}
use Rattle.replay_core.proofs.Ahead.{played_step, played_end, end_at_text, end_at_fault}
use Rattle.replay_core.proofs.Leading.{appends_trans}
use Rattle.replay_core.proofs.LineByLine.{worked_line, either_steps}
use Rattle.script_text.specs.Lines.{Cut, cut, has_end}
use Rattle.script_text.specs.LinesLaws.{cut_first, cut_whole, cut_joined, joined}
use Rattle.script_text.specs.declared.fault.LineFault.{LineFault}
use Rattle.script_text.specs.declared.fault.LineFault.TheVariants as fault
use Rattle.script_text.specs.declared.fault.LimitCause.TheVariants.{Line}
use Rattle.day_core.specs.Agreement.{IsFront, DiffersFirst, Agrees, kept}
use Rattle.day_core.specs.Crashes.{Follows, Holds, Stored}
use Rattle.day_core.specs.Days.{BreaksOff, Cause, IsRefused, Output, PutsPart, Worked, lines_of}
use Rattle.day_core.specs.Keeping.{Continued, Fails, IsKept, IsNew, IsNotKept, IsOther, ReadAs}
use Rattle.day_core.specs.Middle.{AtLine, EndsIn, InDay, IsLate, PutsNothing, PutsPartly, RanFile, Stands, ended_by}
use Rattle.day_core.specs.Refusing.{day_step, refusal, refusal_from, refusal_here}
use Rattle.day_core.specs.declared.status.DayStatus.{DayStatus}
use Rattle.day_core.specs.declared.status.DayStatus.TheVariants.{Done, BadWords, BadLine, LimitLine, Differs, Damaged, DiskFault, ReadFault, WriteFault, NoMemory}
use Rattle.day_core.proofs.Cuts.{cut_behind, lines_behind, lines_push, rest_push, one_line, one_alone, no_line}
use Rattle.day_core.proofs.Fronts.{front_trans, had_other, had_more, kept_past, past_front, past_take}
use Rattle.day_core.proofs.Logs.{short_line}
use Rattle.day_core.proofs.Middles.{agrees_next, line_more, line_size}
use Rattle.day_core.proofs.Refused.{push_behind, refused_behind, refused_line, refused_end, refused_long}
use Rattle.day_core.proofs.Standing.{follows_more, stands_next, crash_goes, failed_first, holds_first}

-- ---- what was taken of a file, and the rest of it where the shelf tells that

pub record SourceOf (first left : Option (List ℕ)) (all : List ℕ) : Type 0 where
  pub rest : List ℕ
  pub told : IfSome first (λ bytes. all ++ rest ≡ bytes)
  pub ended : IsAtEnd left → rest ≡ []
  pub place : IfSome left (λ there. there ≡ rest)
  pub still_told : IfSome first (λ _. IsSome left)

source_of : (first left : Option (List ℕ)) (all : List ℕ) → Consumes first left all → SourceOf first left all
source_of None None all x = record { rest = []; told = tt; ended = λ _. refl; place = tt; still_told = tt }
source_of None (Some rest) all x = record { rest = rest; told = tt; ended = λ e. e; place = refl; still_told = tt }
source_of (Some bytes) None all x = absurd x
source_of (Some bytes) (Some rest) all x = record { rest = rest; told = sym x; ended = λ e. e; place = refl; still_told = refl }

-- the same bytes
same_told : (first : Option (List ℕ)) (bytes other : List ℕ) → bytes ≡ other → IfSome first (λ all. bytes ≡ all) → IfSome first (λ all. other ≡ all)
same_told None bytes other e x = tt
same_told (Some all) bytes other e x = sym e ∙ x

-- ---- what was put of the lines so far

worked_text : {F : Type 0} (at : F → ℕ → SymbolView) (first left : Option (List ℕ)) (old t : Seen) (reader : Reading) (phase : Phase F)
    (journal : List (List ℕ)) (worked : List ℕ) (x : InDay at first left old t reader phase journal worked)
    → (script worked).text ≡ x.leads.done
worked_text at first left old t reader phase journal worked x =
    let here : played start worked ≡ onto x.leads.done x.leads.spent (played x.place []) = rw append-nil at (x.leads.goes []) in
    ap (λ (p : Played). p.text) here
    ∙ ap (λ (t : List ℕ). x.leads.done ++ t) (ap (λ (p : Played). p.text) (played_end x.place [] refl) ∙ end_at_text x.place [])
    ∙ append-nil x.leads.done

is_there : (place : Option Place) (p : Place) → place ≡ Some p → is_some place ≡ true
is_there None p e = absurd (cc)
is_there (Some q) p e = refl

-- no more was put, and the script goes on so
pub worked_so : {F : Type 0} (at : F → ℕ → SymbolView) (first left now : Option (List ℕ)) (old t u : Seen) (reader : Reading) (phase : Phase F)
    (journal : List (List ℕ)) (worked more : List ℕ) (status : DayStatus) (x : InDay at first left old t reader phase journal worked)
    → u.told ≡ t.told → u.steps ≤ t.steps + (played x.place more).steps
    → (Appends old.told u.told (script worked).text → Output status old.told u.told worked) → Cause (worked ++ more) worked now status
    → Worked (worked ++ more) worked now old u status
worked_so at first left now old t u reader phase journal worked more status x told counted output cause =
    let all : script (worked ++ more) ≡ onto x.leads.done x.leads.spent (played x.place more) = x.leads.goes more in
    let steps : (script (worked ++ more)).steps ≡ x.leads.spent + (played x.place more).steps = ap (λ (p : Played). p.steps) all in
    record {
      rest = more;
      whole = refl;
      lines = x.whole;
      taken = is_there (place_behind start (lines_of worked)) x.place x.behind;
      within = omega (arith, x.within, x.bytes);
      output = output (rw (told, worked_text at first left old t reader phase journal worked x) x.leads.grew);
      cause = cause;
      steps = omega (arith, steps, counted, x.leads.counted);
    }

line_steps : (place : Place) (line more : List ℕ) → has_end line ≡ false → (step_at place line).steps ≤ (played place (line ++ 10 ∷ more)).steps
line_steps place line more clear =
    let n = either_steps (step_at place line).steps (step_at place line).result (λ q. played q more) in
    let all : (played place (line ++ 10 ∷ more)).steps ≡ (after_line (step_at place line) (λ q. played q more)).steps =
    ap (λ (x : Played). x.steps) (played_step place line more clear) in
    omega (arith, n, all)

-- ---- the first refusal behind the lines so far

refusal_at : {F : Type 0} (at : F → ℕ → SymbolView) (first left : Option (List ℕ)) (old t : Seen) (reader : Reading) (phase : Phase F)
    (journal : List (List ℕ)) (worked more : List ℕ) (x : InDay at first left old t reader phase journal worked)
    → refusal (worked ++ more) ≡ refusal_from x.place (cut more).lines (cut more).rest
refusal_at at first left old t reader phase journal worked more x =
    ap (λ (c : Cut). refusal_from start c.lines c.rest) (cut_behind worked more x.whole)
    ∙ refused_behind start x.place (lines_of worked) (cut more).lines (cut more).rest x.behind (omega (arith, x.within, x.bytes_are))

-- the number of lines before it
counted : {F : Type 0} (at : F → ℕ → SymbolView) (first left : Option (List ℕ)) (old t : Seen) (reader : Reading) (phase : Phase F)
    (journal : List (List ℕ)) (worked : List ℕ) (x : InDay at first left old t reader phase journal worked) → x.place.lines ≡ length (lines_of worked)
counted at first left old t reader phase journal worked x = sym (x.count ∙ x.lines_are)

line_refused : {F : Type 0} (at : F → ℕ → SymbolView) (first left : Option (List ℕ)) (old t : Seen) (reader : Reading) (phase : Phase F)
    (journal : List (List ℕ)) (worked line more : List ℕ) (why : LineFault) (x : InDay at first left old t reader phase journal worked)
    → has_end line ≡ false → day_step x.place line ≡ Err why → IsRefused (worked ++ (line ++ 10 ∷ more)) worked why
line_refused at first left old t reader phase journal worked line more why x clear e =
    refusal_at at first left old t reader phase journal worked (line ++ 10 ∷ more) x
    ∙ ap (λ (c : Cut). refusal_from x.place c.lines c.rest) (cut_first line more clear)
    ∙ refused_line x.place line (cut more).lines (cut more).rest why e
    ∙ ap (λ (n : ℕ). refusal_here n (Some why)) (counted at first left old t reader phase journal worked x)

-- ---- the journal behind the lines so far

stored_still : {D : Type 0} (told : D → Told) (journal worked lines : List (List ℕ)) (opened : Told) (log then : LogView D) (status : DayStatus)
    → then ≡ log → IsFront worked lines → Stands journal worked opened (told log.disk) → Agrees journal lines worked status
    → (Holds (kept journal worked) (told then.disk) → Stored journal worked (told then.disk) status)
    → Continued journal lines worked opened (told then.disk) status
stored_still told journal worked lines opened log then status e x stands agrees stored = record {
  agrees = agrees;
  stored = stored (subst (λ (l : LogView _). Holds (kept journal worked) (told l.disk)) (sym e) stands.holds);
  crash = subst (λ (l : LogView _). LeavesOnly opened (told l.disk) (Follows lines (ReadAs journal))) (sym e)
      (weaker opened (told log.disk) (Follows worked (ReadAs journal)) (Follows lines (ReadAs journal)) stands.crash
      (follows_more worked lines (ReadAs journal) x));
}

-- the script's lines, where a line stands behind those so far
lines_at : (worked line more : List ℕ) → (cut worked).rest ≡ [] → has_end line ≡ false
    → lines_of (worked ++ (line ++ 10 ∷ more)) ≡ lines_of worked ++ (line ∷ lines_of more)
lines_at worked line more whole clear =
    lines_behind worked (line ++ 10 ∷ more) whole ∙ ap (λ (l : List (List ℕ)). lines_of worked ++ l) (one_line line more clear)

front_at : (worked more : List ℕ) → (cut worked).rest ≡ [] → IsFront (lines_of worked) (lines_of (worked ++ more))
front_at worked more whole = (lines_of more, lines_behind worked more whole)

front_line : (worked line more : List ℕ) → (cut worked).rest ≡ [] → has_end line ≡ false
    → IsFront (lines_of worked ++ line ∷ []) (lines_of (worked ++ (line ++ 10 ∷ more)))
front_line worked line more whole clear =
    (lines_of more, lines_at worked line more whole clear ∙ sym (append_assoc (lines_of worked) (line ∷ []) (lines_of more)))

-- at a refused line
agrees_at : (journal : List (List ℕ)) (worked line more : List ℕ) (is_new : Bool) → (cut worked).rest ≡ [] → has_end line ≡ false
    → IsFront (take (length (lines_of worked)) journal) (lines_of worked) → IsNew journal (length (lines_of worked) + 1) line is_new
    → IsFront (take (length (lines_of worked) + 1) journal) (lines_of (worked ++ (line ++ 10 ∷ more)))
agrees_at journal worked line more is_new whole clear x new =
    let count : length (lines_of worked ++ line ∷ []) ≡ length (lines_of worked) + 1 = length-append (lines_of worked) (line ∷ []) in
    front_trans (take (length (lines_of worked) + 1) journal) (lines_of worked ++ line ∷ []) (lines_of (worked ++ (line ++ 10 ∷ more)))
    (subst (λ (n : ℕ). IsFront (take n journal) (lines_of worked ++ line ∷ [])) count (agrees_next journal (lines_of worked) line is_new new x))
    (front_line worked line more whole clear)

before_at : (journal : List (List ℕ)) (worked more : List ℕ) (n : ℕ) → (cut worked).rest ≡ []
    → IsFront (take (length (lines_of worked)) journal) (lines_of worked) → n ≡ length (lines_of worked) + 1
    → IsFront (take (n - 1) journal) (lines_of (worked ++ more))
before_at journal worked more n whole x e =
    let place : n - 1 ≡ length (lines_of worked) = omega (arith, e) in
    subst (λ (k : ℕ). IsFront (take k journal) (lines_of (worked ++ more))) (sym place)
    (front_trans (take (length (lines_of worked)) journal) (lines_of worked) (lines_of (worked ++ more)) x (front_at worked more whole))

differs_at : (journal : List (List ℕ)) (worked line more : List ℕ) (n : ℕ) → (cut worked).rest ≡ [] → has_end line ≡ false
    → IsFront (take (length (lines_of worked)) journal) (lines_of worked) → n ≡ length (lines_of worked) + 1 → IsOther journal n line
    → DiffersFirst n journal (lines_of (worked ++ (line ++ 10 ∷ more)))
differs_at journal worked line more n whole clear x e other =
    let place : n - 1 ≡ length (lines_of worked) = omega (arith, e) in
    record {
      before = before_at journal worked (line ++ 10 ∷ more) n whole x e;
      there = λ y. had_other journal (lines_of worked) line other.0 (lines_of more) x
          (ap (λ (k : ℕ). slice_get journal k) (sym place) ∙ other.1) other.2
          (subst (λ (l : List (List ℕ)). IsFront (take (length (lines_of worked) + 1) journal) l) (lines_at worked line more whole clear)
          (subst (λ (k : ℕ). IsFront (take k journal) (lines_of (worked ++ (line ++ 10 ∷ more)))) e y));
    }

-- ---- a line of which a beginning was put

part_text : (place next : Place) (line text : List ℕ) → has_end line ≡ false → (step_at place line).result ≡ Ok (next, text)
    → (played place (line ++ 10 ∷ [])).text ≡ text
part_text place next line text clear step =
    ap (λ (p : Played). p.text) (played_step place line [] clear ∙ worked_line (step_at place line) next text (λ q. played q []) step)
    ∙ ap (λ (t : List ℕ). text ++ t) (ap (λ (p : Played). p.text) (played_end next [] refl) ∙ end_at_text next [])
    ∙ append-nil text

puts_part : {F : Type 0} (at : F → ℕ → SymbolView) (first left : Option (List ℕ)) (old t u : Seen) (reader : Reading) (phase behind : Phase F)
    (journal : List (List ℕ)) (worked line : List ℕ) (x : InDay at first left old t reader phase journal worked) → has_end line ≡ false
    → PutsPartly at t u x.place line behind → PutsPart old.told u.told (worked ++ (line ++ 10 ∷ []))
puts_part at first left old t u reader phase behind journal worked line x clear y =
    let all : (script (worked ++ (line ++ 10 ∷ []))).text ≡ x.leads.done ++ y.took.text =
    ap (λ (p : Played). p.text) (x.leads.goes (line ++ 10 ∷ []))
    ∙ ap (λ (t : List ℕ). x.leads.done ++ t) (part_text x.place y.took.next line y.took.text clear y.took.step) in
    let some : take (length x.leads.done + y.grew.0) (x.leads.done ++ y.took.text) ≡ x.leads.done ++ take y.grew.0 y.took.text =
    take-append-add x.leads.done y.took.text y.grew.0 in
    let one = ap length (one_alone line clear) in
    let text : length (script worked).text ≡ length x.leads.done = ap length (worked_text at first left old t reader phase journal worked x) in
    record {
      first = worked;
      last = line ++ 10 ∷ [];
      whole = refl;
      one = omega (arith, one);
      count = length x.leads.done + y.grew.0;
      least = omega (arith, text);
      grew = rw (all, some) (appends_trans old.told t.told u.told x.leads.done (take y.grew.0 y.took.text) x.leads.grew y.grew.1);
    }

worked_part : {F : Type 0} (at : F → ℕ → SymbolView) (first left now : Option (List ℕ)) (old t u : Seen) (reader : Reading) (phase behind : Phase F)
    (journal : List (List ℕ)) (worked line more : List ℕ) (x : InDay at first left old t reader phase journal worked) → has_end line ≡ false
    → PutsPartly at t u x.place line behind
    → Worked (worked ++ (line ++ 10 ∷ more)) (worked ++ (line ++ 10 ∷ [])) now old u WriteFault
worked_part at first left now old t u reader phase behind journal worked line more x clear y =
    let pushed : lines_of (worked ++ (line ++ 10 ∷ [])) ≡ lines_of worked ++ line ∷ [] = lines_push worked line x.whole clear in
    let there : place_behind start (lines_of (worked ++ (line ++ 10 ∷ []))) ≡ Some y.took.next =
    ap (λ (l : List (List ℕ)). place_behind start l) pushed
    ∙ push_behind start x.place y.took.next (lines_of worked) line y.took.text x.behind y.took.step in
    let all : script (worked ++ (line ++ 10 ∷ more)) ≡ onto x.leads.done x.leads.spent (played x.place (line ++ 10 ∷ more)) = x.leads.goes (line ++ 10 ∷ more) in
    let steps : (script (worked ++ (line ++ 10 ∷ more))).steps ≡ x.leads.spent + (played x.place (line ++ 10 ∷ more)).steps = ap (λ (p : Played). p.steps) all in
    record {
      rest = more;
      whole = sym (line_more worked line more);
      lines = rest_push worked line x.whole clear;
      taken = is_there (place_behind start (lines_of (worked ++ (line ++ 10 ∷ [])))) y.took.next there;
      within = omega (arith, line_size worked line, x.bytes, x.bytes_are, y.took.behind.bytes, y.took.within);
      output = puts_part at first left old t u reader phase behind journal worked line x clear y;
      cause = tt;
      steps = omega (arith, steps, line_steps x.place line more clear, y.took.steps, x.leads.counted);
    }

-- ---- a line at which the day ended

-- what is known where a line was handed out and the day ended in it
pub record InLine {F D : Type 0} (at : F → ℕ → SymbolView) (told : D → Told) (first before left : Option (List ℕ)) (old t : Seen)
    (reader next : Reading) (phase : Phase F) (journal : List (List ℕ)) (opened : Told) (log : LogView D) (line : List ℕ) (is_over : Bool) : Type 0 where
  pub here : AtLine at told first before old t reader phase journal opened log
  pub found : opened.honest ≡ true → reading opened.seen ≡ intact journal
  pub handed : HandsOut reader next before left line is_over

abbrev line_bytes : List ℕ → List ℕ → List ℕ → List ℕ
line_bytes worked line more = worked ++ (line ++ 10 ∷ more)

whole_bytes : (worked line held rest : List ℕ) → (worked ++ (line ++ 10 ∷ held)) ++ rest ≡ worked ++ (line ++ 10 ∷ (held ++ rest))
whole_bytes worked line held rest =
    append_assoc worked (line ++ 10 ∷ held) rest ∙ ap (λ (t : List ℕ). worked ++ t) (append_assoc line (10 ∷ held) rest)

-- nothing was put of the line, and the journal is as it was
line_still : {F D : Type 0} (at : F → ℕ → SymbolView) (told : D → Told) (first before left : Option (List ℕ)) (old t u : Seen)
    (reader next : Reading) (phase : Phase F) (journal : List (List ℕ)) (opened : Told) (log then : LogView D) (line : List ℕ) (is_over : Bool)
    (status : DayStatus) (x : InLine at told first before left old t reader next phase journal opened log line is_over)
    → PutsNothing t u x.here.day.place line → then ≡ log → IsLate status
    → (Appends old.told u.told (script x.here.worked).text → Output status old.told u.told x.here.worked)
    → ((more : List ℕ) → Cause (line_bytes x.here.worked line more) x.here.worked left status)
    → ((more : List ℕ) → Agrees journal (lines_of (line_bytes x.here.worked line more)) (lines_of x.here.worked) status)
    → (Holds (kept journal (lines_of x.here.worked)) (told then.disk) → Stored journal (lines_of x.here.worked) (told then.disk) status)
    → RanFile first left journal opened (told then.disk) old u status
line_still at told first before left old t u reader next phase journal opened log then line is_over status x y same late output cause agrees stored =
    let source = source_of first left (x.here.worked ++ (line ++ 10 ∷ next.held))
    (taken_more first before left x.here.worked reader.held (line ++ 10 ∷ next.held) x.here.day.taken x.handed.reads) in
    let more = next.held ++ source.rest in
    record {
      bytes = line_bytes x.here.worked line more;
      told = same_told first _ (line_bytes x.here.worked line more) (whole_bytes x.here.worked line next.held source.rest) source.told;
      given = x.here.worked;
      worked = worked_so at first before left old t u reader phase journal x.here.worked (line ++ 10 ∷ more) status x.here.day y.told
          (omega (arith, y.steps, line_steps x.here.day.place line more x.handed.clear)) output (cause more);
      continued = λ honest. stored_still told journal (lines_of x.here.worked) (lines_of (line_bytes x.here.worked line more)) opened log then status
          same (front_at x.here.worked (line ++ 10 ∷ more) x.here.day.whole) (x.here.stands honest) (agrees more) stored;
      late = late;
      still_told = source.still_told;
    }

line_is_refused : {F D : Type 0} (at : F → ℕ → SymbolView) (told : D → Told) (first before left : Option (List ℕ)) (old t : Seen)
    (reader next : Reading) (phase : Phase F) (journal : List (List ℕ)) (opened : Told) (log : LogView D) (line : List ℕ) (is_over : Bool)
    (why : LineFault) (x : InLine at told first before left old t reader next phase journal opened log line is_over)
    → day_step x.here.day.place line ≡ Err why → (more : List ℕ) → IsRefused (line_bytes x.here.worked line more) x.here.worked why
line_is_refused at told first before left old t reader next phase journal opened log line is_over why x e more =
    line_refused at first before old t reader phase journal x.here.worked line more why x.here.day x.handed.clear e

line_agrees : {F D : Type 0} (at : F → ℕ → SymbolView) (told : D → Told) (first before left : Option (List ℕ)) (old t : Seen)
    (reader next : Reading) (phase : Phase F) (journal : List (List ℕ)) (opened : Told) (log : LogView D) (line : List ℕ) (is_over : Bool)
    (x : InLine at told first before left old t reader next phase journal opened log line is_over)
    → ((is_new : Bool) × IsNew journal (reader.lines + 1) line is_new) → (more : List ℕ)
    → IsFront (take (length (lines_of x.here.worked) + 1) journal) (lines_of (line_bytes x.here.worked line more))
line_agrees at told first before left old t reader next phase journal opened log line is_over x new more =
    agrees_at journal x.here.worked line more new.0 x.here.day.whole x.handed.clear x.here.day.agrees
    (subst (λ (n : ℕ). IsNew journal (n + 1) line new.0) (sym x.here.day.count) new.1)

-- an append failed
line_failed : {F D : Type 0} (at : F → ℕ → SymbolView) (told : D → Told) (first before left : Option (List ℕ)) (old t u : Seen)
    (reader next : Reading) (phase : Phase F) (journal : List (List ℕ)) (opened : Told) (log then : LogView D) (line : List ℕ) (is_over : Bool)
    (x : InLine at told first before left old t reader next phase journal opened log line is_over)
    → PutsNothing t u x.here.day.place line → length journal < reader.lines + 1 → Fails told log then line
    → ((told then.disk).honest ≡ true → (at : ℕ) (file : List ℕ) → at ≤ (told then.disk).moment → (told then.disk).may_leave file → (told then.disk).left_since at file)
    → RanFile first left journal opened (told then.disk) old u DiskFault
line_failed at told first before left old t u reader next phase journal opened log then line is_over x y less step counts =
    let source = source_of first left (x.here.worked ++ (line ++ 10 ∷ next.held))
    (taken_more first before left x.here.worked reader.held (line ++ 10 ∷ next.held) x.here.day.taken x.handed.reads) in
    let more = next.held ++ source.rest in
    let lines = lines_of x.here.worked in
    let all = lines_of (line_bytes x.here.worked line more) in
    let le : length journal ≤ length lines = omega (arith, less, x.here.day.count) in
    record {
      bytes = line_bytes x.here.worked line more;
      told = same_told first _ (line_bytes x.here.worked line more) (whole_bytes x.here.worked line next.held source.rest) source.told;
      given = x.here.worked;
      worked = worked_so at first before left old t u reader phase journal x.here.worked (line ++ 10 ∷ more) DiskFault x.here.day y.told
          (omega (arith, y.steps, line_steps x.here.day.place line more x.handed.clear)) (λ grew. grew) tt;
      continued = λ honest.
          let old_honest : (told log.disk).honest ≡ true = x.here.honest ∙ honest in
          record {
            agrees = tt;
            stored = failed_first journal lines line opened (told log.disk) (told then.disk) le (x.here.stands honest) (step.crash old_honest)
                (counts (step.honest ∙ old_honest));
            crash = weaker opened (told then.disk) (Follows (lines ++ line ∷ []) (ReadAs journal)) (Follows all (ReadAs journal))
                (crash_goes journal lines line opened (told log.disk) (told then.disk) (x.found honest) le
                (past_front journal lines x.here.day.agrees le) (x.here.stands honest) (step.crash old_honest))
                (follows_more (lines ++ line ∷ []) all (ReadAs journal) (front_line x.here.worked line more x.here.day.whole x.handed.clear));
          };
      late = tt;
      still_told = source.still_told;
    }

-- the line's output was put in part
line_part : {F D : Type 0} (at : F → ℕ → SymbolView) (told : D → Told) (first before left : Option (List ℕ)) (old t u : Seen)
    (reader next : Reading) (phase behind : Phase F) (journal : List (List ℕ)) (opened : Told) (log then : LogView D) (line : List ℕ) (is_over : Bool)
    (x : InLine at told first before left old t reader next phase journal opened log line is_over)
    → PutsPartly at t u x.here.day.place line behind → IsKept told journal log then (reader.lines + 1) line
    → RanFile first left journal opened (told then.disk) old u WriteFault
line_part at told first before left old t u reader next phase behind journal opened log then line is_over x y step =
    let source = source_of first left (x.here.worked ++ (line ++ 10 ∷ next.held))
    (taken_more first before left x.here.worked reader.held (line ++ 10 ∷ next.held) x.here.day.taken x.handed.reads) in
    let more = next.held ++ source.rest in
    let lines = lines_of x.here.worked in
    let all = lines_of (line_bytes x.here.worked line more) in
    let pushed : lines_of (x.here.worked ++ (line ++ 10 ∷ [])) ≡ lines ++ line ∷ [] = lines_push x.here.worked line x.here.day.whole x.handed.clear in
    let here : IsKept told journal log then (length lines + 1) line = subst (λ (n : ℕ). IsKept told journal log then (n + 1) line) (sym x.here.day.count) step in
    record {
      bytes = line_bytes x.here.worked line more;
      told = same_told first _ (line_bytes x.here.worked line more) (whole_bytes x.here.worked line next.held source.rest) source.told;
      given = x.here.worked ++ (line ++ 10 ∷ []);
      worked = worked_part at first before left old t u reader phase behind journal x.here.worked line more x.here.day x.handed.clear y;
      continued = λ honest.
          let stands : Stands journal (lines ++ line ∷ []) opened (told then.disk) =
          stands_next told journal lines line opened log then (x.found honest) (past_front journal lines x.here.day.agrees)
          (x.here.honest ∙ honest) (x.here.stands honest) here in
          record {
            agrees = tt;
            stored = subst (λ (l : List (List ℕ)). Holds (kept journal l) (told then.disk)) (sym pushed) stands.holds;
            crash = weaker opened (told then.disk) (Follows (lines ++ line ∷ []) (ReadAs journal)) (Follows all (ReadAs journal)) stands.crash
                (follows_more (lines ++ line ∷ []) all (ReadAs journal) (front_line x.here.worked line more x.here.day.whole x.handed.clear));
          };
      late = tt;
      still_told = source.still_told;
    }

pub line_ends : {F D : Type 0} (at : F → ℕ → SymbolView) (told : D → Told) (first before left : Option (List ℕ)) (old t u : Seen)
    (reader next : Reading) (phase behind : Phase F) (journal : List (List ℕ)) (opened : Told) (log then : LogView D) (line : List ℕ) (is_over : Bool)
    (status : DayStatus) (x : InLine at told first before left old t reader next phase journal opened log line is_over)
    → EndsIn at t u x.here.day.place line behind status → IsNotKept told journal log then (reader.lines + 1) line status
    → ((told then.disk).honest ≡ true → (at : ℕ) (file : List ℕ) → at ≤ (told then.disk).moment → (told then.disk).may_leave file → (told then.disk).left_since at file)
    → RanFile first left journal opened (told then.disk) old u status
line_ends at told first before left old t u reader next phase behind journal opened log then line is_over Done x y step counts = absurd y
line_ends at told first before left old t u reader next phase behind journal opened log then line is_over BadWords x y step counts = absurd y
line_ends at told first before left old t u reader next phase behind journal opened log then line is_over (Damaged place) x y step counts = absurd y
line_ends at told first before left old t u reader next phase behind journal opened log then line is_over ReadFault x y step counts = absurd y
line_ends at told first before left old t u reader next phase behind journal opened log then line is_over (BadLine n cause) x y step counts =
    line_still at told first before left old t u reader next phase journal opened log then line is_over (BadLine n cause) x y.0 step.1 tt (λ grew. grew)
    (line_is_refused at told first before left old t reader next phase journal opened log line is_over (fault.Bad n cause) x y.1)
    (line_agrees at told first before left old t reader next phase journal opened log line is_over x step.0) (λ holds. holds)
line_ends at told first before left old t u reader next phase behind journal opened log then line is_over (LimitLine n which) x y step counts =
    line_still at told first before left old t u reader next phase journal opened log then line is_over (LimitLine n which) x y.0 step.1 tt (λ grew. grew)
    (line_is_refused at told first before left old t reader next phase journal opened log line is_over (fault.Limit n which) x y.1)
    (line_agrees at told first before left old t reader next phase journal opened log line is_over x step.0) (λ holds. holds)
line_ends at told first before left old t u reader next phase behind journal opened log then line is_over (Differs n) x y step counts =
    let number : n ≡ length (lines_of x.here.worked) + 1 = step.0 ∙ ap (λ (k : ℕ). k + 1) (sym x.here.day.count) in
    line_still at told first before left old t u reader next phase journal opened log then line is_over (Differs n) x y step.2 tt (λ grew. grew)
    (λ more. number)
    (λ more. differs_at journal x.here.worked line more n x.here.day.whole x.handed.clear x.here.day.agrees number
    (subst (λ (k : ℕ). IsOther journal k line) (sym step.0) step.1)) (λ holds. holds)
line_ends at told first before left old t u reader next phase behind journal opened log then line is_over DiskFault x y step counts =
    line_failed at told first before left old t u reader next phase journal opened log then line is_over x y step.0 step.1 counts
line_ends at told first before left old t u reader next phase behind journal opened log then line is_over NoMemory x y step counts =
    line_still at told first before left old t u reader next phase journal opened log then line is_over NoMemory x y step tt (λ grew. grew)
    (λ more. tt) (λ more. tt) (holds_first journal (lines_of x.here.worked) (told then.disk))
line_ends at told first before left old t u reader next phase behind journal opened log then line is_over WriteFault x y step counts =
    line_part at told first before left old t u reader next phase behind journal opened log then line is_over x y step

-- ---- behind the last line that was handed out

-- the shelf gave these bytes behind those that were worked, and no more was put
file_still : {F D : Type 0} (at : F → ℕ → SymbolView) (told : D → Told) (first before left : Option (List ℕ)) (old t : Seen)
    (reader : Reading) (phase : Phase F) (journal : List (List ℕ)) (opened : Told) (log : LogView D) (more : List ℕ) (status : DayStatus)
    (x : AtLine at told first before old t reader phase journal opened log)
    → IfSome first (λ bytes. x.worked ++ more ≡ bytes) → IfSome first (λ _. IsSome left) → IsLate status
    → (Appends old.told t.told (script x.worked).text → Output status old.told t.told x.worked)
    → Cause (x.worked ++ more) x.worked left status
    → (opened.honest ≡ true → Agrees journal (lines_of (x.worked ++ more)) (lines_of x.worked) status)
    → (Holds (kept journal (lines_of x.worked)) (told log.disk) → Stored journal (lines_of x.worked) (told log.disk) status)
    → RanFile first left journal opened (told log.disk) old t status
file_still at told first before left old t reader phase journal opened log more status x source told_still late output cause agrees stored = record {
  bytes = x.worked ++ more;
  told = source;
  given = x.worked;
  worked = worked_so at first before left old t t reader phase journal x.worked more status x.day refl (omega arith) output cause;
  continued = λ honest. stored_still told journal (lines_of x.worked) (lines_of (x.worked ++ more)) opened log log status refl
      (front_at x.worked more x.day.whole) (x.stands honest) (agrees honest) stored;
  late = late;
  still_told = told_still;
}

-- what was read before a failed read
broken_off : (bytes given part rest : List ℕ) (left : Option (List ℕ)) → bytes ≡ (given ++ part) ++ rest → lines_of part ≡ []
    → IfSome left (λ there. there ≡ rest) → IfSome left (BreaksOff bytes given)
broken_off bytes given part rest None whole none place = tt
broken_off bytes given part rest (Some there) whole none place = record {
  part = part;
  unfinished = none;
  whole = whole ∙ ap (λ (r : List ℕ). (given ++ part) ++ r) (sym place);
}

-- a read failed
pub cut_off : {F D : Type 0} (at : F → ℕ → SymbolView) (told : D → Told) (first before left : Option (List ℕ)) (old t : Seen)
    (reader next : Reading) (phase : Phase F) (journal : List (List ℕ)) (opened : Told) (log : LogView D)
    (x : AtLine at told first before old t reader phase journal opened log) → IsCutOff reader next before left
    → RanFile first left journal opened (told log.disk) old t ReadFault
cut_off at told first before left old t reader next phase journal opened log x h =
    let source = source_of first left (x.worked ++ next.held)
    (taken_more first before left x.worked reader.held next.held x.day.taken h.reads) in
    let cause = broken_off (x.worked ++ (next.held ++ source.rest)) x.worked next.held source.rest left
    (sym (append_assoc x.worked next.held source.rest)) (no_line next.held h.clear) source.place in
    file_still at told first before left old t reader phase journal opened log (next.held ++ source.rest) ReadFault x
    (same_told first _ (x.worked ++ (next.held ++ source.rest)) (append_assoc x.worked next.held source.rest) source.told) source.still_told tt (λ grew. grew) cause
    (λ _. tt) (λ holds. holds)

-- the journal has a line behind those of the script
had_there : (journal : List (List ℕ)) (worked more : List ℕ) (n : ℕ) → (cut worked).rest ≡ [] → lines_of more ≡ []
    → IsFront (take (length (lines_of worked)) journal) (lines_of worked) → n ≡ length (lines_of worked) + 1 → n ≤ length journal
    → DiffersFirst n journal (lines_of (worked ++ more))
had_there journal worked more n whole none x e le =
    let all : lines_of (worked ++ more) ≡ lines_of worked =
    lines_behind worked more whole ∙ ap (λ (l : List (List ℕ)). lines_of worked ++ l) none ∙ append-nil (lines_of worked) in
    record {
      before = before_at journal worked more n whole x e;
      there = λ y. had_more journal (lines_of worked) (omega (arith, le, e))
          (subst (λ (l : List (List ℕ)). IsFront (take (length (lines_of worked) + 1) journal) l) all
          (subst (λ (k : ℕ). IsFront (take k journal) (lines_of (worked ++ more))) e y));
    }

is_had : (n : ℕ) (journal : List (List ℕ)) (had : Bool) → had ≡ nat_le n (length journal) → had ≡ true → n ≤ length journal
is_had n journal had e h = let test : nat_le n (length journal) ≡ true = sym e ∙ h in grind (arith, nat_tests)

is_not_had : (n : ℕ) (journal : List (List ℕ)) (had : Bool) → had ≡ nat_le n (length journal) → had ≡ false → length journal < n
is_not_had n journal had e h = let test : nat_le n (length journal) ≡ false = sym e ∙ h in grind (arith, nat_tests)

-- what stands behind the last line of a file that was read to its end
all_told : (first left : Option (List ℕ)) (worked rest : List ℕ) → IsAtEnd left → Consumes first left (worked ++ rest)
    → IfSome first (λ bytes. worked ++ rest ≡ bytes)
all_told first left worked rest ended taken =
    let source = source_of first left (worked ++ rest) taken in
    same_told first _ (worked ++ rest) (ap (λ (r : List ℕ). (worked ++ rest) ++ r) (source.ended ended) ∙ append-nil (worked ++ rest)) source.told

pub end_differs : {F D : Type 0} (at : F → ℕ → SymbolView) (told : D → Told) (first before left : Option (List ℕ)) (old t : Seen)
    (reader next : Reading) (phase : Phase F) (journal : List (List ℕ)) (opened : Told) (log : LogView D) (rest : List ℕ) (n : ℕ) (had : Bool)
    (x : AtLine at told first before old t reader phase journal opened log) → IsAllRead reader next before left rest
    → n ≡ reader.lines + 1 → had ≡ nat_le n (length journal) → had ≡ true
    → RanFile first left journal opened (told log.disk) old t (Differs n)
end_differs at told first before left old t reader next phase journal opened log rest n had x h same test true_is =
    let number : n ≡ length (lines_of x.worked) + 1 = same ∙ ap (λ (k : ℕ). k + 1) (sym x.day.count) in
    file_still at told first before left old t reader phase journal opened log rest (Differs n) x
    (all_told first left x.worked rest h.ended (taken_more first before left x.worked reader.held rest x.day.taken h.reads))
    (source_of first left (x.worked ++ rest) (taken_more first before left x.worked reader.held rest x.day.taken h.reads)).still_told tt (λ grew. grew) number
    (λ honest. had_there journal x.worked rest n x.day.whole (no_line rest h.clear) x.day.agrees number (is_had n journal had test true_is)) (λ holds. holds)

-- all the journal's lines were met
all_met : (journal : List (List ℕ)) (worked more : List ℕ) (n : ℕ) → (cut worked).rest ≡ []
    → IsFront (take (length (lines_of worked)) journal) (lines_of worked) → n ≡ length (lines_of worked) + 1 → length journal < n
    → IsFront journal (lines_of (worked ++ more))
all_met journal worked more n whole x e less =
    front_trans journal (lines_of worked) (lines_of (worked ++ more)) (past_front journal (lines_of worked) x (omega (arith, e, less)))
    (front_at worked more whole)

all_taken : (journal : List (List ℕ)) (worked more : List ℕ) (n : ℕ) → (cut worked).rest ≡ []
    → IsFront (take (length (lines_of worked)) journal) (lines_of worked) → n ≡ length (lines_of worked) + 1 → length journal < n
    → IsFront (take (length (lines_of worked) + 1) journal) (lines_of (worked ++ more))
all_taken journal worked more n whole x e less =
    subst (λ (l : List (List ℕ)). IsFront l (lines_of (worked ++ more))) (sym (past_take journal (length (lines_of worked) + 1) (omega (arith, e, less))))
    (all_met journal worked more n whole x e less)

-- the script ends, and this is refused of it
end_so : {F D : Type 0} (at : F → ℕ → SymbolView) (told : D → Told) (first before left : Option (List ℕ)) (old t : Seen)
    (reader : Reading) (phase : Phase F) (journal : List (List ℕ)) (opened : Told) (log : LogView D) (rest : List ℕ) (n : ℕ) (why : Option LineFault)
    (x : AtLine at told first before old t reader phase journal opened log)
    → IfSome first (λ bytes. x.worked ++ rest ≡ bytes) → IfSome first (λ _. IsSome left) → n ≡ length (lines_of x.worked) + 1
    → length journal < n
    → (why ≡ Some fault.NoMemory → ⊥) → (why ≡ None → rest ≡ [])
    → refusal (x.worked ++ rest) ≡ refusal_here (length (lines_of x.worked)) why
    → RanFile first left journal opened (told log.disk) old t (ended_by why)
end_so at told first before left old t reader phase journal opened log rest n None x source told_still number less wanted none e =
    let all : x.worked ++ rest ≡ x.worked = ap (λ (r : List ℕ). x.worked ++ r) (none refl) ∙ append-nil x.worked in
    file_still at told first before left old t reader phase journal opened log rest Done x source told_still tt (λ grew. grew) (sym all, e)
    (λ honest. all_met journal x.worked rest n x.day.whole x.day.agrees number less)
    (λ holds. subst (λ (l : List (List ℕ)). Holds l (told log.disk)) (kept_past journal (lines_of x.worked) (omega (arith, number, less))) holds)
end_so at told first before left old t reader phase journal opened log rest n (Some (fault.Bad line cause)) x source told_still number less wanted none e =
    file_still at told first before left old t reader phase journal opened log rest (BadLine line cause) x source told_still tt (λ grew. grew) e
    (λ honest. all_taken journal x.worked rest n x.day.whole x.day.agrees number less) (λ holds. holds)
end_so at told first before left old t reader phase journal opened log rest n (Some (fault.Limit line which)) x source told_still number less wanted none e =
    file_still at told first before left old t reader phase journal opened log rest (LimitLine line which) x source told_still tt (λ grew. grew) e
    (λ honest. all_taken journal x.worked rest n x.day.whole x.day.agrees number less) (λ holds. holds)
end_so at told first before left old t reader phase journal opened log rest n (Some fault.NoMemory) x source told_still number less wanted none e =
    absurd (wanted refl)

ends_none : (n : ℕ) (stage : Stage) (rest : List ℕ) → (end_of n stage rest).fault ≡ None → rest ≡ []
ends_none n (Head header) rest e = absurd (cc)
ends_none n (Body playing) [] e = refl
ends_none n (Body playing) (b ∷ rest) e = absurd (cc)

either_none : (long : Bool) (n : ℕ) (stage : Stage) (rest : List ℕ) → (cond long (stopped (fault.Limit n Line)) (end_of n stage rest)).fault ≡ None → rest ≡ []
either_none true n stage rest e = absurd (cc)
either_none false n stage rest e = ends_none n stage rest e

end_none : (place : Place) (rest : List ℕ) → (end_at place rest).fault ≡ None → rest ≡ []
unfolding end_at
end_none place rest e = either_none (nat_lt MAX_LINE_BYTES (length rest)) (place.lines + 1) place.stage rest e

pub script_ends : {F D : Type 0} (at : F → ℕ → SymbolView) (told : D → Told) (first before left : Option (List ℕ)) (old t : Seen)
    (reader next : Reading) (phase : Phase F) (journal : List (List ℕ)) (opened : Told) (log : LogView D) (rest : List ℕ) (n : ℕ) (had : Bool)
    (x : AtLine at told first before old t reader phase journal opened log) → IsAllRead reader next before left rest
    → n ≡ reader.lines + 1 → had ≡ nat_le n (length journal) → had ≡ false
    → RanFile first left journal opened (told log.disk) old t (ended_by (end_at x.day.place rest).fault)
script_ends at told first before left old t reader next phase journal opened log rest n had x h same test false_is =
    let number : n ≡ length (lines_of x.worked) + 1 = same ∙ ap (λ (k : ℕ). k + 1) (sym x.day.count) in
    end_so at told first before left old t reader phase journal opened log rest n (end_at x.day.place rest).fault x
    (all_told first left x.worked rest h.ended (taken_more first before left x.worked reader.held rest x.day.taken h.reads))
    (source_of first left (x.worked ++ rest) (taken_more first before left x.worked reader.held rest x.day.taken h.reads)).still_told
    number (is_not_had n journal had test false_is) (end_at_fault x.day.place rest) (end_none x.day.place rest)
    (refusal_at at first before old t reader phase journal x.worked rest x.day
    ∙ ap (λ (c : Cut). refusal_from x.day.place c.lines c.rest) (cut_whole rest h.clear)
    ∙ refused_end x.day.place rest
    ∙ ap (λ (k : ℕ). refusal_here k (end_at x.day.place rest).fault) (counted at first before old t reader phase journal x.worked x.day))

-- ---- a line that is too long

pub long_limit : {F D : Type 0} (at : F → ℕ → SymbolView) (told : D → Told) (first before left : Option (List ℕ)) (old t : Seen)
    (reader next : Reading) (phase : Phase F) (journal : List (List ℕ)) (opened : Told) (log : LogView D) (n : ℕ) (had : Bool)
    (x : AtLine at told first before old t reader phase journal opened log) → IsTooLong reader next before left
    → n ≡ reader.lines + 1 → had ≡ nat_le n (length journal) → had ≡ false
    → RanFile first left journal opened (told log.disk) old t (LimitLine n Line)
long_limit at told first before left old t reader next phase journal opened log n had x h same test false_is =
    let source = source_of first left (x.worked ++ next.held)
    (taken_more first before left x.worked reader.held next.held x.day.taken h.reads) in
    let more = next.held ++ source.rest in
    let long = long_front next.held source.rest h.long in
    let number : n ≡ length (lines_of x.worked) + 1 = same ∙ ap (λ (k : ℕ). k + 1) (sym x.day.count) in
    let place : x.day.place.lines + 1 ≡ n = ap (λ (k : ℕ). k + 1) (sym x.day.lines_are) ∙ sym same in
    file_still at told first before left old t reader phase journal opened log more (LimitLine n Line) x
    (same_told first _ (x.worked ++ more) (append_assoc x.worked next.held source.rest) source.told) source.still_told tt (λ grew. grew)
    (refusal_at at first before old t reader phase journal x.worked more x.day
    ∙ ap (λ (t : List ℕ). refusal_from x.day.place (cut t).lines (cut t).rest) long.whole
    ∙ refused_long x.day.place long.front long.behind long.clear long.long
    ∙ ap (λ (k : ℕ). refusal_here x.day.place.lines (Some (fault.Limit k Line))) place
    ∙ ap (λ (k : ℕ). refusal_here k (Some (fault.Limit n Line))) (counted at first before old t reader phase journal x.worked x.day))
    (λ honest. all_taken journal x.worked more n x.day.whole x.day.agrees number (is_not_had n journal had test false_is)) (λ holds. holds)

-- no line of a journal is so long
long_other : (journal worked : List (List ℕ)) (other front : List ℕ) (lines : List (List ℕ)) (rest : List ℕ) → IsFront (take (length worked) journal) worked
    → slice_get journal (length worked) ≡ Some other → length other ≤ MAX_LINE_BYTES → MAX_LINE_BYTES < length front
    → IsFront (take (length worked + 1) journal) (worked ++ (joined front lines rest).lines) → ⊥
unfolding joined
long_other journal worked other front [] rest x e short long y =
    had_more journal worked (slice_get_within journal (length worked) other e) (subst (λ (l : List (List ℕ)). IsFront (take (length worked + 1) journal) l) (append-nil worked) y)
long_other journal worked other front (line ∷ lines) rest x e short long y =
    had_other journal worked (front ++ line) other lines x e
    (λ same. absurd (omega (arith, ap length same, length-append front line, short, long))) y

pub long_differs : {F D : Type 0} (at : F → ℕ → SymbolView) (told : D → Told) (first before left : Option (List ℕ)) (old t : Seen)
    (reader next : Reading) (phase : Phase F) (journal : List (List ℕ)) (opened : Told) (log : LogView D) (n : ℕ) (had : Bool)
    (x : AtLine at told first before old t reader phase journal opened log) → (opened.honest ≡ true → reading opened.seen ≡ intact journal)
    → IsTooLong reader next before left
    → n ≡ reader.lines + 1 → had ≡ nat_le n (length journal) → had ≡ true
    → RanFile first left journal opened (told log.disk) old t (Differs n)
long_differs at told first before left old t reader next phase journal opened log n had x found h same test true_is =
    let source = source_of first left (x.worked ++ next.held)
    (taken_more first before left x.worked reader.held next.held x.day.taken h.reads) in
    let more = next.held ++ source.rest in
    let long = long_front next.held source.rest h.long in
    let lines = lines_of x.worked in
    let number : n ≡ length lines + 1 = same ∙ ap (λ (k : ℕ). k + 1) (sym x.day.count) in
    let inside : length lines < length journal = omega (arith, number, is_had n journal had test true_is) in
    let other : slice_get journal (length lines) ≡ Some (get_or journal (length lines) []) = slice_get-get_or journal (length lines) [] inside in
    let all : lines_of (x.worked ++ more) ≡ lines ++ (joined long.front (cut long.behind).lines (cut long.behind).rest).lines =
    lines_behind x.worked more x.day.whole
    ∙ ap (λ (t : List ℕ). lines ++ lines_of t) long.whole
    ∙ ap (λ (c : Cut). lines ++ c.lines) (cut_joined long.front long.behind long.clear) in
    file_still at told first before left old t reader phase journal opened log more (Differs n) x
    (same_told first _ (x.worked ++ more) (append_assoc x.worked next.held source.rest) source.told) source.still_told tt (λ grew. grew) number
    (λ honest. record {
      before = before_at journal x.worked more n x.day.whole x.day.agrees number;
      there = λ y. long_other journal lines (get_or journal (length lines) []) long.front (cut long.behind).lines (cut long.behind).rest x.day.agrees other
          (short_line opened.seen journal (length lines) (get_or journal (length lines) []) (found honest) other) long.long
          (subst (λ (l : List (List ℕ)). IsFront (take (length lines + 1) journal) l) all
          (subst (λ (k : ℕ). IsFront (take k journal) (lines_of (x.worked ++ more))) number y));
    }) (λ holds. holds)
