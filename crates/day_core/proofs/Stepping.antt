-- A line of a day, from what it comes to at the stage of the script.
use Rattle.std.proofs.Common.{◌≡◌, ◌⊎◌, ℕ, ◌≤◌, ◌+◌, nat_lt, cond, Bool, true, false, List, length, Result, Ok, Err, refl, sym, ◌∙◌, ap, inl, inr, arith}
use Rattle.std.proofs.lemmas.Bool.Decides.{nat_tests}
use Rattle.venue_words.specs.Floors.{SymbolView}
use Rattle.venue_words.specs.declared.limits.TheConstants.{MAX_DAY_BYTES, MAX_LINE_BYTES, MAX_SCRIPT_BYTES}
use Rattle.line_reader.specs.Over.{over, over_fault, weighed}
use Rattle.replay_core.specs.Meets.{MeetsInPlace}
use Rattle.replay_core.specs.Phases.{IsAtStage}
use Rattle.replay_core.specs.Play.{Place, Stage, step_at, turned}
use Rattle.replay_core.specs.Reading.{IsAtPlace, IsBehind, IsLineAt}
use Rattle.replay_core.specs.declared.phase.Phase.{Phase}
use Rattle.replay_core.proofs.Steps as replay
use Rattle.script_text.specs.declared.fault.LineFault.{LineFault}
use Rattle.script_text.specs.declared.fault.LineFault.TheVariants as fault
use Rattle.replay_core.specs.Telling.{Seen}
use Rattle.std.specs.Io.KnownBytes.{Appends}
use Rattle.io_edge.specs.Grows.{AppendsPrefix}
use Rattle.day_journal.specs.Disk.{Told}
use Rattle.day_journal.specs.LogView.{LogView}
use Rattle.day_core.specs.Keeping.{IsNew, IsNotKept, KeepsNot}
use Rattle.day_core.specs.Middle.{EndsIn, IsDayLine, PutsLine, PutsNothing, PutsPartly}
use Rattle.day_core.specs.Refusing.{day_step}
use Rattle.day_core.specs.Statuses.{refused}
use Rattle.day_core.specs.declared.status.DayStatus.{DayStatus}
use Rattle.day_core.specs.declared.status.DayStatus.TheVariants.{Done, BadWords, BadLine, LimitLine, Differs, Damaged, DiskFault, ReadFault, WriteFault, NoMemory}
use Rattle.day_core.proofs.Refused.{day_taken}

-- a line of a day is within the limit of a replay
replay_line : (n : ℕ) (text : List ℕ) (is_over : Bool) (place : Place) → length text ≤ MAX_LINE_BYTES → IsDayLine n text is_over place
    → IsLineAt n text false place
replay_line n text is_over place short line = record {
  counted = line.counted;
  over =
      let within = line.within in
      let test : nat_lt MAX_SCRIPT_BYTES (place.bytes + length text + 1) ≡ false = grind (arith, nat_tests) in
      sym test;
}

-- what is meant, under a limit on bytes
weighed_meets : {T V : Type 0} (stands : T → V → Type 0) (now : T) (out : List ℕ) (most n bytes : ℕ) (is_over : Bool)
    (meant : Result (V × List ℕ) LineFault) (worked result : Result (Unit {0}) LineFault) → is_over ≡ nat_lt most bytes
    → result ≡ cond is_over (Err (over n worked)) worked → MeetsInPlace stands meant worked now out
    → MeetsInPlace stands (weighed most n bytes meant) result now out
weighed_meets stands now out most n bytes true meant (Ok done) result test is x = rw is (inr (rw (← test, x.1) refl))
weighed_meets stands now out most n bytes true meant (Err fault) result test is (inl none) = rw is (inl (ap over_fault none))
weighed_meets stands now out most n bytes true meant (Err fault) result test is (inr e) = rw is (inr (rw (← test, e) refl))
weighed_meets stands now out most n bytes false meant (Ok done) result test is x = rw (is, ← test) x
weighed_meets stands now out most n bytes false meant (Err fault) result test is x = rw (is, ← test) x

pub line_meets : {F : Type 0} (at : F → ℕ → SymbolView) (old phase : Phase F) (n : ℕ) (text out : List ℕ) (is_over : Bool)
    (worked result : Result (Unit {0}) LineFault) → length text ≤ MAX_LINE_BYTES
    → ((stage : Stage) → IsAtStage at old stage → MeetsInPlace (IsAtStage at) (turned n stage text).result worked phase out)
    → result ≡ cond is_over (Err (over n worked)) worked → (place : Place) → IsAtPlace at old place → IsDayLine n text is_over place
    → MeetsInPlace (IsBehind at place text) (day_step place text) result phase out
line_meets at old phase n text out is_over worked result short turn is place there line =
    let said : result ≡ cond is_over (Err (over (place.lines + 1) worked)) worked =
    is ∙ ap (λ (k : ℕ). cond is_over (Err (over k worked)) worked) line.counted in
    weighed_meets (IsBehind at place text) phase out MAX_DAY_BYTES (place.lines + 1) (place.bytes + length text + 1) is_over
    (step_at place text).result worked result line.over said
    (replay.line_meets at old phase n text out false worked worked short turn refl place there (replay_line n text is_over place short line))

pub line_steps : {F : Type 0} (at : F → ℕ → SymbolView) (old : Phase F) (n : ℕ) (text : List ℕ) (is_over : Bool) (before after : ℕ)
    → length text ≤ MAX_LINE_BYTES
    → ((stage : Stage) → IsAtStage at old stage → after ≤ before + (turned n stage text).steps)
    → (place : Place) → IsAtPlace at old place → IsDayLine n text is_over place → after ≤ before + (step_at place text).steps
line_steps at old n text is_over before after short turn place there line =
    replay.line_steps at old n text false before after short turn place there (replay_line n text is_over place short line)

-- ---- what became of a line

pub puts_line : {F : Type 0} (at : F → ℕ → SymbolView) (old new : Seen) (place : Place) (line : List ℕ) (phase : Phase F) (next : Place) (text : List ℕ)
    → day_step place line ≡ Ok (next, text) → IsBehind at place line phase next → new.steps ≤ old.steps + (step_at place line).steps
    → Appends old.told new.told text → PutsLine at old new place line phase
puts_line at old new place line phase next text e behind steps grew =
    let taken = day_taken place line (next, text) e in
    record {
      took = record {
        next = next;
        text = text;
        step = taken.0;
        within = omega (arith, behind.bytes, taken.1);
        behind = behind;
        steps = steps;
      };
      grew = grew;
    }

pub puts_partly : {F : Type 0} (at : F → ℕ → SymbolView) (old new : Seen) (place : Place) (line : List ℕ) (phase : Phase F) (next : Place) (text : List ℕ)
    → day_step place line ≡ Ok (next, text) → IsBehind at place line phase next → new.steps ≤ old.steps + (step_at place line).steps
    → AppendsPrefix old.told new.told text → PutsPartly at old new place line phase
puts_partly at old new place line phase next text e behind steps grew =
    let taken = day_taken place line (next, text) e in
    record {
      took = record {
        next = next;
        text = text;
        step = taken.0;
        within = omega (arith, behind.bytes, taken.1);
        behind = behind;
        steps = steps;
      };
      grew = grew;
    }

pub refused_ends : {F : Type 0} (at : F → ℕ → SymbolView) (old new : Seen) (place : Place) (line : List ℕ) (phase : Phase F) (why : LineFault)
    → PutsNothing old new place line → (why ≡ fault.NoMemory) ⊎ (day_step place line ≡ Err why) → EndsIn at old new place line phase (refused why)
refused_ends at old new place line phase (fault.Bad n cause) x (inl e) = absurd (cc)
refused_ends at old new place line phase (fault.Bad n cause) x (inr e) = (x, e)
refused_ends at old new place line phase (fault.Limit n which) x (inl e) = absurd (cc)
refused_ends at old new place line phase (fault.Limit n which) x (inr e) = (x, e)
refused_ends at old new place line phase fault.NoMemory x e = x

pub refused_keeps : {D : Type 0} (told : D → Told) (journal : List (List ℕ)) (old new : LogView D) (n : ℕ) (line : List ℕ) (is_new : Bool) (why : LineFault)
    → IsNew journal n line is_new → new ≡ old → IsNotKept told journal old new n line (refused why)
refused_keeps told journal old new n line is_new (fault.Bad m cause) x e = ((is_new, x), e)
refused_keeps told journal old new n line is_new (fault.Limit m which) x e = ((is_new, x), e)
refused_keeps told journal old new n line is_new fault.NoMemory x e = e

pub failed_ends : {F D : Type 0} (at : F → ℕ → SymbolView) (told : D → Told) (log then : LogView D) (old new : Seen) (place : Place) (line : List ℕ)
    (phase : Phase F) (status : DayStatus) → PutsNothing old new place line → KeepsNot told log then line status → EndsIn at old new place line phase status
failed_ends at told log then old new place line phase DiskFault x e = x
failed_ends at told log then old new place line phase NoMemory x e = x
failed_ends at told log then old new place line phase Done x e = absurd e
failed_ends at told log then old new place line phase BadWords x e = absurd e
failed_ends at told log then old new place line phase (BadLine n cause) x e = absurd e
failed_ends at told log then old new place line phase (LimitLine n which) x e = absurd e
failed_ends at told log then old new place line phase (Differs n) x e = absurd e
failed_ends at told log then old new place line phase (Damaged n) x e = absurd e
failed_ends at told log then old new place line phase ReadFault x e = absurd e
failed_ends at told log then old new place line phase WriteFault x e = absurd e

pub failed_keeps : {D : Type 0} (told : D → Told) (journal : List (List ℕ)) (log then : LogView D) (n : ℕ) (line : List ℕ) (is_new : Bool)
    (status : DayStatus) → IsNew journal n line is_new → is_new ≡ true → KeepsNot told log then line status
    → IsNotKept told journal log then n line status
failed_keeps told journal log then n line false status x e fails = absurd (cc)
failed_keeps told journal log then n line true DiskFault x e fails = (x, fails)
failed_keeps told journal log then n line true NoMemory x e fails = fails
failed_keeps told journal log then n line true Done x e fails = absurd fails
failed_keeps told journal log then n line true BadWords x e fails = absurd fails
failed_keeps told journal log then n line true (BadLine m cause) x e fails = absurd fails
failed_keeps told journal log then n line true (LimitLine m which) x e fails = absurd fails
failed_keeps told journal log then n line true (Differs m) x e fails = absurd fails
failed_keeps told journal log then n line true (Damaged m) x e fails = absurd fails
failed_keeps told journal log then n line true ReadFault x e fails = absurd fails
failed_keeps told journal log then n line true WriteFault x e fails = absurd fails
