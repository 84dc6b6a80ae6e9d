-- A line that may stand at a place, and one that may not.
use Rattle.std.proofs.Common.{◌≡◌, ◌≤◌, ◌+◌, ℕ, ◌==◌, ◌||◌, ◌&&◌, not, Bool, true, false, List, [], ◌∷◌, ◌++◌, length, Option, None, Some, option_map, Result, Ok, Err, nat_le, nat_lt, if◌then◌else◌, refl, ◌∙◌, ap, arith}
use Rattle.std.proofs.lemmas.Bool.Decides.{nat_tests}
use Rattle.std.specs.Option.{option_and_then}
use Rattle.std.specs.Result.{result_ok}
use Rattle.venue_words.specs.declared.limits.TheConstants.{MAX_LINE_BYTES, MAX_SCRIPT_BYTES}
use Rattle.script_text.specs.Lines.{has_end}
use Rattle.script_text.specs.declared.fault.LineFault.{LineFault}
use Rattle.replay_core.specs.Play.{Place, step_at, turned, placed}
use Rattle.live_machine.specs.Taking.{fits, taken_at, place_from, place_after, yields}

or_true : (a b : Bool) → b ≡ true → (a || b) ≡ true
or_true true b e = refl
or_true false b e = e

-- a text with an LF has an end
pub has_end-append : (xs ys : List ℕ) → has_end (xs ++ 10 ∷ ys) ≡ true
has_end-append [] ys = refl
has_end-append (x ∷ xs) ys = or_true (x == 10) (has_end (xs ++ 10 ∷ ys)) (has_end-append xs ys)

-- ---- lines in a row

pub place_push : (from : Place) (past : List (List ℕ)) (line : List ℕ) (place : Place) (x : Place × List ℕ)
    → place_from from past ≡ Some place → taken_at place line ≡ Some x → place_from from (past ++ line ∷ []) ≡ Some x.0
place_push from [] line place x there is =
    let same : from ≡ place = cc in
    ap (λ (p : Place). option_and_then (λ (y : Place × List ℕ). place_from y.0 []) (taken_at p line)) same
    ∙ ap (option_and_then (λ (y : Place × List ℕ). place_from y.0 [])) is
place_push from (first ∷ past) line place x there is =
    (elim (taken_at from first) as (λ o. option_and_then (λ (y : Place × List ℕ). place_from y.0 past) o ≡ Some place
    → option_and_then (λ (y : Place × List ℕ). place_from y.0 (past ++ line ∷ [])) o ≡ Some x.0) [
      | None ↦ λ e. absurd (cc)
      | Some y ↦ λ e. place_push y.0 past line place x e is
    ]) there

pub yields_at : (past : List (List ℕ)) (place : Place) (line : List ℕ) → place_after past ≡ Some place
    → yields past line ≡ option_map (λ (x : Place × List ℕ). x.1) (taken_at place line)
yields_at past place line there =
    ap (λ (o : Option Place). option_map (λ (x : Place × List ℕ). x.1) (option_and_then (λ (p : Place). taken_at p line) o)) there

said : (ended : Bool) (r : Result (Place × List ℕ) LineFault) (x : Place × List ℕ)
    → (if ended then None else result_ok r) ≡ Some x → (ended ≡ false) × (r ≡ Ok x)
said true r x e = absurd (cc)
said false (Ok y) x e = (refl, cc)
said false (Err fault) x e = absurd (cc)

pub taken_says : (place : Place) (line : List ℕ) (x : Place × List ℕ) → taken_at place line ≡ Some x
    → (has_end line ≡ false) × ((step_at place line).result ≡ Ok x)
unfolding taken_at
taken_says place line x e = said (has_end line) (step_at place line).result x e

-- ---- one line

-- what the tests of a line say
record Fits (before : ℕ) (text : List ℕ) : Type 0 where
  short : nat_lt MAX_LINE_BYTES (length text) ≡ false
  within : nat_lt MAX_SCRIPT_BYTES (before + length text + 1) ≡ false
  clear : has_end text ≡ false

data FitsNot (before : ℕ) (text : List ℕ) : Type 0 where
  IsLong : nat_lt MAX_LINE_BYTES (length text) ≡ true → FitsNot before text
  IsOver : nat_lt MAX_LINE_BYTES (length text) ≡ false → nat_lt MAX_SCRIPT_BYTES (before + length text + 1) ≡ true → FitsNot before text
  HasEnd : has_end text ≡ true → FitsNot before text

three_true : (a b c : Bool) → (a && (b && not c)) ≡ true → (a ≡ true) × (b ≡ true) × (c ≡ false)
three_true true true false e = (refl, refl, refl)
three_true true true true e = absurd (cc)
three_true true false c e = absurd (cc)
three_true false b c e = absurd (cc)

le_true : (a b : ℕ) → nat_le a b ≡ true → nat_lt b a ≡ false
le_true a b e = grind (arith, nat_tests)

le_false : (a b : ℕ) → nat_le a b ≡ false → nat_lt b a ≡ true
le_false a b e = grind (arith, nat_tests)

fits_so : (before : ℕ) (text : List ℕ) → fits before text ≡ true → Fits before text
fits_so before text e =
    let x = three_true (nat_le (length text) MAX_LINE_BYTES) (nat_le (before + length text + 1) MAX_SCRIPT_BYTES) (has_end text) e in
    record { short = le_true _ _ x.0; within = le_true _ _ x.1; clear = x.2 }

three_false : (before : ℕ) (text : List ℕ) (a b c : Bool) → nat_le (length text) MAX_LINE_BYTES ≡ a → nat_le (before + length text + 1) MAX_SCRIPT_BYTES ≡ b
    → has_end text ≡ c → (a && (b && not c)) ≡ false → FitsNot before text
three_false before text false b c is_a is_b is_c e = IsLong (le_false _ _ is_a)
three_false before text true false c is_a is_b is_c e = IsOver (le_true _ _ is_a) (le_false _ _ is_b)
three_false before text true true true is_a is_b is_c e = HasEnd is_c
three_false before text true true false is_a is_b is_c e = absurd (cc)

none_either : (b : Bool) → ◌≡◌ {A = Option (Place × List ℕ)} (if b then None else None) None
none_either true = refl
none_either false = refl

refused_step : (place : Place) (text : List ℕ) (fault : LineFault) → (step_at place text).result ≡ Err fault → taken_at place text ≡ None
unfolding taken_at
refused_step place text fault e =
    ap (λ (r : Result (Place × List ℕ) LineFault). if has_end text then None else result_ok r) e ∙ none_either (has_end text)

long_step : (place : Place) (text : List ℕ) → nat_lt MAX_LINE_BYTES (length text) ≡ true → (fault : LineFault) × ((step_at place text).result ≡ Err fault)
unfolding step_at
long_step place text long = rw long (_, refl)

over_step : (place : Place) (text : List ℕ) → nat_lt MAX_LINE_BYTES (length text) ≡ false → nat_lt MAX_SCRIPT_BYTES (place.bytes + length text + 1) ≡ true
    → (fault : LineFault) × ((step_at place text).result ≡ Err fault)
unfolding step_at
over_step place text short over = rw (short, over) (_, refl)

ended_step : (place : Place) (text : List ℕ) → has_end text ≡ true → taken_at place text ≡ None
unfolding taken_at
ended_step place text ended = rw ended refl

-- a line that may not stand at a place is refused there
unfit_by : (place : Place) (text : List ℕ) → FitsNot place.bytes text → taken_at place text ≡ None
unfit_by place text (IsLong long) = let x = long_step place text long in refused_step place text x.0 x.1
unfit_by place text (IsOver short over) = let x = over_step place text short over in refused_step place text x.0 x.1
unfit_by place text (HasEnd ended) = ended_step place text ended

pub unfit : (place : Place) (text : List ℕ) → fits place.bytes text ≡ false → taken_at place text ≡ None
unfit place text e =
    unfit_by place text (three_false place.bytes text (nat_le (length text) MAX_LINE_BYTES) (nat_le (place.bytes + length text + 1) MAX_SCRIPT_BYTES)
    (has_end text) refl refl refl e)

-- a line that may comes to what it does at the place's stage
fit_step : (place : Place) (text : List ℕ) → Fits place.bytes text
    → (step_at place text).result ≡ placed place text (turned (place.lines + 1) place.stage text).result
unfolding step_at
fit_step place text x = rw (x.short, x.within) refl

pub fit : (place : Place) (text : List ℕ) → fits place.bytes text ≡ true
    → taken_at place text ≡ result_ok (placed place text (turned (place.lines + 1) place.stage text).result)
unfolding taken_at
fit place text e =
    let x = fits_so place.bytes text e in
    rw (x.clear, fit_step place text x) refl

pub fits_short : (before : ℕ) (text : List ℕ) → fits before text ≡ true → length text ≤ MAX_LINE_BYTES
fits_short before text e = let x = (fits_so before text e).short in grind (arith, nat_tests)

pub fits_within : (before : ℕ) (text : List ℕ) → fits before text ≡ true → before + length text + 1 ≤ MAX_SCRIPT_BYTES
fits_within before text e = let x = (fits_so before text e).within in grind (arith, nat_tests)
