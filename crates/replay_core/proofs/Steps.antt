-- A line at a place, from what it comes to at the stage.
use Rattle.std.proofs.Common.{◌≡◌, ℕ, ◌≤◌, ◌+◌, nat_lt, cond, Bool, true, false, List, length, Result, Ok, Err, OnOk, refl, sym, ◌∙◌, ap, subst, inl, inr, arith}
use Rattle.std.proofs.lemmas.Bool.Decides.{nat_tests}
use Rattle.venue_words.specs.Floors.{SymbolView}
use Rattle.venue_words.specs.declared.limits.TheConstants.{MAX_LINE_BYTES, MAX_SCRIPT_BYTES}
use Rattle.script_text.specs.declared.fault.LineFault.{LineFault}
use Rattle.line_reader.specs.Over.{over, over_fault, weighed}
use Rattle.replay_core.specs.Meets.{MeetsInPlace}
use Rattle.replay_core.specs.Phases.{IsAtStage}
use Rattle.replay_core.specs.Play.{Place, Stage, Turned, Stepped, step_at, stepped, placed, next_place, turned}
use Rattle.replay_core.specs.Reading.{IsAtPlace, IsBehind, IsLineAt}
use Rattle.replay_core.specs.declared.phase.Phase.{Phase}

abbrev here : Place → List ℕ → Turned
here place text = turned (place.lines + 1) place.stage text

short_line : (place : Place) (text : List ℕ) → length text ≤ MAX_LINE_BYTES → step_at place text ≡ stepped place text (here place text)
unfolding step_at
short_line place text l = let short : nat_lt MAX_LINE_BYTES (length text) ≡ false = grind (arith, nat_tests) in rw short refl

apart : (done : Unit {0}) (fault : LineFault) → (let x : Result (Unit {0}) LineFault = Ok done in x) ≡ Err fault → ⊥
apart done fault e = cc

-- the place behind a line stands for the phase behind it
placed_meets : {F : Type 0} (at : F → ℕ → SymbolView) (phase : Phase F) (place : Place) (text out : List ℕ)
    (meant : Result (Stage × List ℕ) LineFault) (result : Result (Unit {0}) LineFault)
    → MeetsInPlace (IsAtStage at) meant result phase out → MeetsInPlace (IsBehind at place text) (placed place text meant) result phase out
placed_meets at phase place text out meant (Ok done) x =
    (next_place place text x.0, ap (placed place text) x.1, record { there = x.2; lines = refl; bytes = refl })
placed_meets at phase place text out meant (Err fault) (inl none) = inl none
placed_meets at phase place text out meant (Err fault) (inr e) = inr (ap (placed place text) e)

-- the same under a limit on bytes
weighed_meets : {T V : Type 0} (stands : T → V → Type 0) (now : T) (out : List ℕ) (most n bytes : ℕ) (is_over : Bool)
    (meant : Result (V × List ℕ) LineFault) (worked result : Result (Unit {0}) LineFault) → is_over ≡ nat_lt most bytes
    → result ≡ cond is_over (Err (over n worked)) worked → MeetsInPlace stands meant worked now out
    → MeetsInPlace stands (weighed most n bytes meant) result now out
weighed_meets stands now out most n bytes true meant (Ok done) result test is x =
    rw is (inr (rw (← test, x.1) refl))
weighed_meets stands now out most n bytes true meant (Err fault) result test is (inl none) = rw is (inl (ap over_fault none))
weighed_meets stands now out most n bytes true meant (Err fault) result test is (inr e) = rw is (inr (rw (← test, e) refl))
weighed_meets stands now out most n bytes false meant (Ok done) result test is x = rw (is, ← test) x
weighed_meets stands now out most n bytes false meant (Err fault) result test is x = rw (is, ← test) x

-- a line that is short enough, wherever the phase stands
pub line_meets : {F : Type 0} (at : F → ℕ → SymbolView) (old phase : Phase F) (n : ℕ) (text out : List ℕ) (is_over : Bool)
    (worked result : Result (Unit {0}) LineFault) → length text ≤ MAX_LINE_BYTES
    → ((stage : Stage) → IsAtStage at old stage → MeetsInPlace (IsAtStage at) (turned n stage text).result worked phase out)
    → result ≡ cond is_over (Err (over n worked)) worked → (place : Place) → IsAtPlace at old place → IsLineAt n text is_over place
    → MeetsInPlace (IsBehind at place text) (step_at place text).result result phase out
line_meets at old phase n text out is_over worked result short turn is place there line =
    let meant : (step_at place text).result ≡ weighed MAX_SCRIPT_BYTES (place.lines + 1) (place.bytes + length text + 1) (placed place text (here place text).result) =
    ap (λ (s : Stepped). s.result) (short_line place text short) in
    let same : (turned n place.stage text).result ≡ (here place text).result = ap (λ (k : ℕ). (turned k place.stage text).result) line.counted in
    let said : result ≡ cond is_over (Err (over (place.lines + 1) worked)) worked =
    is ∙ ap (λ (k : ℕ). cond is_over (Err (over k worked)) worked) line.counted in
    subst (λ (r : Result (Place × List ℕ) LineFault). MeetsInPlace (IsBehind at place text) r result phase out) (sym meant)
    (weighed_meets (IsBehind at place text) phase out MAX_SCRIPT_BYTES (place.lines + 1) (place.bytes + length text + 1) is_over
    (placed place text (here place text).result) worked result line.over said
    (subst (λ (r : Result (Stage × List ℕ) LineFault). MeetsInPlace (IsBehind at place text) (placed place text r) worked phase out) same
    (placed_meets at phase place text out (turned n place.stage text).result worked (turn place.stage there))))

pub line_steps : {F : Type 0} (at : F → ℕ → SymbolView) (old : Phase F) (n : ℕ) (text : List ℕ) (is_over : Bool) (before after : ℕ)
    → length text ≤ MAX_LINE_BYTES
    → ((stage : Stage) → IsAtStage at old stage → after ≤ before + (turned n stage text).steps)
    → (place : Place) → IsAtPlace at old place → IsLineAt n text is_over place → after ≤ before + (step_at place text).steps
line_steps at old n text is_over before after short turn place there line =
    let steps : (step_at place text).steps ≡ (turned n place.stage text).steps =
    ap (λ (s : Stepped). s.steps) (short_line place text short)
    ∙ ap (λ (k : ℕ). (turned k place.stage text).steps) (sym line.counted) in
    subst (λ (k : ℕ). after ≤ before + k) (sym steps) (turn place.stage there)

-- a line that was worked under the limit is within it
pub line_within : (n : ℕ) (is_over : Bool) (worked result : Result (Unit {0}) LineFault)
    → result ≡ cond is_over (Err (over n worked)) worked → OnOk result (is_over ≡ false)
line_within n true worked (Ok done) is = absurd (apart done _ is)
line_within n true worked (Err fault) is = tt
line_within n false worked (Ok done) is = refl
line_within n false worked (Err fault) is = tt
