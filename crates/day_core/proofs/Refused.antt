-- Where a script is refused in a day.
use Rattle.std.proofs.Common.{◌≡◌, ◌==◌, ℕ, ◌+◌, ◌≤◌, ◌<◌, nat_lt, Bool, true, false, cond, List, [], ◌∷◌, ◌++◌, length, Option, Some, None, option_map, Result, Ok, Err, refl, sym, ◌∙◌, ap, arith, length-append}
use Rattle.std.proofs.lemmas.Bool.Decides.{nat_tests}
use Rattle.venue_words.specs.declared.limits.TheConstants.{MAX_DAY_BYTES, MAX_LINE_BYTES, MAX_SCRIPT_BYTES}
use Rattle.line_reader.specs.Over.{over, weighed}
use Rattle.replay_core.specs.Histories.{place_behind, behind_result}
use Rattle.replay_core.specs.Play.{Place, Stage, Played, Turned, step_at, stepped, placed, refused_at, next_place, turned, end_at, after_result, play, start, played}
use Rattle.script_text.specs.Lines.{Cut, cut, has_end, onto_line}
use Rattle.script_text.specs.LinesLaws.{cut_joined, joined}
use Rattle.script_text.specs.declared.fault.LineFault.{LineFault}
use Rattle.script_text.specs.declared.fault.LineFault.TheVariants.{Limit}
use Rattle.script_text.specs.declared.fault.LimitCause.TheVariants.{Line}
use Rattle.day_core.specs.Refusing.{Refusal, day_step, refusal, refusal_behind, refusal_from, refusal_here, RefusesAsReplay}

-- ---- a line that is taken

-- the place behind a line
pub record IsNext (place : Place) (line : List ℕ) (next : Place) : Type 0 where
  pub lines : next.lines ≡ place.lines + 1
  pub bytes : next.bytes ≡ place.bytes + length line + 1

ok_same : (x y : Place × List ℕ) → (let r : Result (Place × List ℕ) LineFault = Ok x in r) ≡ Ok y → x ≡ y
ok_same x y e = cc

placed_next : (place : Place) (line : List ℕ) (r : Result (Stage × List ℕ) LineFault) (x : Place × List ℕ) → placed place line r ≡ Ok x
    → IsNext place line x.0
placed_next place line (Err fault) x e = absurd (cc)
placed_next place line (Ok y) x e =
    let same = ok_same (next_place place line y.0, y.1) x e in
    record { lines = sym (ap (λ (p : Place × List ℕ). p.0.lines) same); bytes = sym (ap (λ (p : Place × List ℕ). p.0.bytes) same) }

weighed_ok : {T : Type 0} (past : Bool) (n : ℕ) (r : Result T LineFault) (x : T) → cond past (Err (over n r)) r ≡ Ok x → r ≡ Ok x
weighed_ok true n r x e = absurd (cc)
weighed_ok false n r x e = e

step_next : (long : Bool) (place : Place) (line : List ℕ) (t : Turned) (x : Place × List ℕ)
    → (cond long (refused_at place (Limit (place.lines + 1) Line)) (stepped place line t)).result ≡ Ok x → IsNext place line x.0
step_next true place line t x e = absurd (cc)
step_next false place line t x e =
    placed_next place line t.result x (weighed_ok (nat_lt MAX_SCRIPT_BYTES (place.bytes + length line + 1)) (place.lines + 1) (placed place line t.result) x e)

pub taken_next : (place : Place) (line : List ℕ) (x : Place × List ℕ) → (step_at place line).result ≡ Ok x → IsNext place line x.0
unfolding step_at
taken_next place line x e = step_next (nat_lt MAX_LINE_BYTES (length line)) place line (turned (place.lines + 1) place.stage line) x e

-- a line within the day's limit is what it is in a replay
pub day_within : (place : Place) (line : List ℕ) → place.bytes + length line + 1 ≤ MAX_DAY_BYTES
    → day_step place line ≡ (step_at place line).result
day_within place line le =
    let test : nat_lt MAX_DAY_BYTES (place.bytes + length line + 1) ≡ false = grind (arith, nat_tests) in
    ap (λ (b : Bool). cond b (Err (over (place.lines + 1) (step_at place line).result)) (step_at place line).result) test

taken_cases : (place : Place) (line : List ℕ) (x : Place × List ℕ) (past : Bool) → nat_lt MAX_DAY_BYTES (place.bytes + length line + 1) ≡ past
    → cond past (Err (over (place.lines + 1) (step_at place line).result)) (step_at place line).result ≡ Ok x
    → ((step_at place line).result ≡ Ok x) × (place.bytes + length line + 1 ≤ MAX_DAY_BYTES)
taken_cases place line x true test e = absurd (cc)
taken_cases place line x false test e = (e, grind (arith, nat_tests))

-- a line that is taken in a day is within the limit
pub day_taken : (place : Place) (line : List ℕ) (x : Place × List ℕ) → day_step place line ≡ Ok x
    → ((step_at place line).result ≡ Ok x) × (place.bytes + length line + 1 ≤ MAX_DAY_BYTES)
day_taken place line x e = taken_cases place line x (nat_lt MAX_DAY_BYTES (place.bytes + length line + 1)) refl e

-- ---- lines that are taken

behind_some : (r : Result (Place × List ℕ) LineFault) (next : Place → Option Place) (q : Place) → behind_result r next ≡ Some q
    → (x : Place × List ℕ) × (r ≡ Ok x) × (next x.0 ≡ Some q)
behind_some (Ok x) next q e = (x, refl, e)
behind_some (Err fault) next q e = absurd (cc)

pub push_behind : (p q next : Place) (lines : List (List ℕ)) (line text : List ℕ) → place_behind p lines ≡ Some q
    → (step_at q line).result ≡ Ok (next, text) → place_behind p (lines ++ line ∷ []) ≡ Some next
unfolding place_behind
push_behind p q next [] line text e step =
    let same : p ≡ q = cc in
    ap (λ (k : Place). behind_result (step_at k line).result (λ n. place_behind n [])) same
    ∙ ap (λ (r : Result (Place × List ℕ) LineFault). behind_result r (λ n. place_behind n [])) step
push_behind p q next (l ∷ lines) line text e step =
    let x = behind_some (step_at p l).result (λ next. place_behind next lines) q e in
    ap (λ (r : Result (Place × List ℕ) LineFault). behind_result r (λ n. place_behind n (lines ++ line ∷ []))) x.1
    ∙ push_behind x.0.0 q next lines line text x.2 step

bytes_grow : (p q : Place) (lines : List (List ℕ)) → place_behind p lines ≡ Some q → p.bytes ≤ q.bytes
unfolding place_behind
bytes_grow p q [] e =
    let same : p ≡ q = cc in
    omega (arith, ap (λ (p : Place). p.bytes) same)
bytes_grow p q (l ∷ lines) e =
    let x = behind_some (step_at p l).result (λ next. place_behind next lines) q e in
    let next = taken_next p l x.0 x.1 in
    let more = bytes_grow x.0.0 q lines x.2 in
    omega (arith, next.bytes, more)

-- no line that is taken within the limit is the first that is refused
pub refused_behind : (p q : Place) (lines more : List (List ℕ)) (rest : List ℕ) → place_behind p lines ≡ Some q → q.bytes ≤ MAX_DAY_BYTES
    → refusal_from p (lines ++ more) rest ≡ refusal_from q more rest
unfolding place_behind refusal_from
refused_behind p q [] more rest e le =
    let same : p ≡ q = cc in
    ap (λ (p : Place). refusal_from p more rest) same
refused_behind p q (l ∷ lines) more rest e le =
    let x = behind_some (step_at p l).result (λ next. place_behind next lines) q e in
    let next = taken_next p l x.0 x.1 in
    let grows = bytes_grow x.0.0 q lines x.2 in
    let step : day_step p l ≡ Ok x.0 = day_within p l (omega (arith, next.bytes, grows, le)) ∙ x.1 in
    ap (λ (r : Result (Place × List ℕ) LineFault). refusal_behind p.lines r (λ next. refusal_from next (lines ++ more) rest)) step
    ∙ refused_behind x.0.0 q lines more rest x.2 le

-- ---- the first refusal

pub refused_line : (p : Place) (line : List ℕ) (more : List (List ℕ)) (rest : List ℕ) (fault : LineFault) → day_step p line ≡ Err fault
    → refusal_from p (line ∷ more) rest ≡ refusal_here p.lines (Some fault)
unfolding refusal_from
refused_line p line more rest fault e =
    ap (λ (r : Result (Place × List ℕ) LineFault). refusal_behind p.lines r (λ next. refusal_from next more rest)) e

pub refused_end : (p : Place) (rest : List ℕ) → refusal_from p [] rest ≡ refusal_here p.lines (end_at p rest).fault
unfolding refusal_from
refused_end p rest = refl

over_long : (past : Bool) (n : ℕ) (place : Place) → (let r : Result (Place × List ℕ) LineFault = Err (Limit n Line) in cond past (Err (over n r)) r) ≡ Err (Limit n Line)
over_long true n place = refl
over_long false n place = refl

long_step : (p : Place) (held line : List ℕ) → MAX_LINE_BYTES < length held → day_step p (held ++ line) ≡ Err (Limit (p.lines + 1) Line)
unfolding step_at
long_step p held line h =
    let long : nat_lt MAX_LINE_BYTES (length (held ++ line)) ≡ true = grind (arith, nat_tests, length-append) in
    ap (λ (r : Result (Place × List ℕ) LineFault). weighed MAX_DAY_BYTES (p.lines + 1) (p.bytes + length (held ++ line) + 1) r)
    (ap (λ (b : Bool). (cond b (refused_at p (Limit (p.lines + 1) Line)) (stepped p (held ++ line) (turned (p.lines + 1) p.stage (held ++ line)))).result) long)
    ∙ over_long (nat_lt MAX_DAY_BYTES (p.bytes + length (held ++ line) + 1)) (p.lines + 1) p

long_end : (p : Place) (held rest : List ℕ) → MAX_LINE_BYTES < length held → (end_at p (held ++ rest)).fault ≡ Some (Limit (p.lines + 1) Line)
unfolding end_at
long_end p held rest h =
    let long : nat_lt MAX_LINE_BYTES (length (held ++ rest)) ≡ true = grind (arith, nat_tests, length-append) in
    rw long refl

long_from : (p : Place) (held : List ℕ) (lines : List (List ℕ)) (rest : List ℕ) → MAX_LINE_BYTES < length held
    → refusal_from p (joined held lines rest).lines (joined held lines rest).rest ≡ refusal_here p.lines (Some (Limit (p.lines + 1) Line))
unfolding refusal_from joined
long_from p held [] rest h = ap (refusal_here p.lines) (long_end p held rest h)
long_from p held (line ∷ lines) rest h =
    ap (λ (r : Result (Place × List ℕ) LineFault). refusal_behind p.lines r (λ next. refusal_from next lines rest)) (long_step p held line h)

-- too many bytes without an end of line
pub refused_long : (p : Place) (held more : List ℕ) → has_end held ≡ false → MAX_LINE_BYTES < length held
    → refusal_from p (cut (held ++ more)).lines (cut (held ++ more)).rest ≡ refusal_here p.lines (Some (Limit (p.lines + 1) Line))
refused_long p held more clear h =
    ap (λ (c : Cut). refusal_from p c.lines c.rest) (cut_joined held more clear)
    ∙ long_from p held (cut more).lines (cut more).rest h

-- ---- a script within the limit

-- the bytes of lines, each with its LF
abbrev bytes_of : List (List ℕ) → ℕ
bytes_of [] = 0
bytes_of (line ∷ lines) = length line + 1 + bytes_of lines

same_here : (n : ℕ) (why : Option LineFault) → option_map (λ (r : Refusal). r.why) (refusal_here n why) ≡ why
same_here n None = refl
same_here n (Some fault) = refl

abbrev why_of : Option Refusal → Option LineFault
why_of refusal = option_map (λ (r : Refusal). r.why) refusal

same_step : (p : Place) (r : Result (Place × List ℕ) LineFault) (steps : ℕ) (next : Place → Option Refusal) (after : Place → Played)
    → ((x : Place × List ℕ) → r ≡ Ok x → why_of (next x.0) ≡ (after x.0).fault)
    → why_of (refusal_behind p.lines r next) ≡ (after_result steps r after).fault
same_step p (Ok x) steps next after h = h x refl
same_step p (Err fault) steps next after h = refl

same_from : (p : Place) (lines : List (List ℕ)) (rest : List ℕ) → p.bytes + bytes_of lines ≤ MAX_DAY_BYTES
    → why_of (refusal_from p lines rest) ≡ (play p lines rest).fault
unfolding refusal_from play
same_from p [] rest le = same_here p.lines (end_at p rest).fault
same_from p (line ∷ lines) rest le =
    ap (λ (r : Result (Place × List ℕ) LineFault). why_of (refusal_behind p.lines r (λ next. refusal_from next lines rest)))
    (day_within p line (omega (arith, le)))
    ∙ same_step p (step_at p line).result (step_at p line).steps (λ next. refusal_from next lines rest) (λ next. play next lines rest)
    (λ x e. let next = taken_next p line x e in same_from x.0 lines rest (omega (arith, next.bytes, le)))

onto_bytes : (b : ℕ) (lines : List (List ℕ)) (rest : List ℕ) → bytes_of (onto_line b lines rest).lines ≤ bytes_of lines + 1
onto_bytes b [] rest = omega arith
onto_bytes b (line ∷ lines) rest = omega arith

more_bytes : (end : Bool) (b : ℕ) (there : Cut) (n : ℕ) → bytes_of there.lines ≤ n
    → bytes_of (cond end (record { lines = [] ∷ there.lines; rest = there.rest }) (onto_line b there.lines there.rest)).lines ≤ n + 1
more_bytes true b there n le = omega arith
more_bytes false b there n le = omega (arith, onto_bytes b there.lines there.rest, le)

bytes_within : (text : List ℕ) → bytes_of (cut text).lines ≤ length text
unfolding cut
bytes_within [] = omega arith
bytes_within (b ∷ text) =
    let le = more_bytes (b == 10) b (cut text) (length text) (bytes_within text) in
    omega (arith, le)

pub refuses_as_replay : RefusesAsReplay
unfolding played
refuses_as_replay text le = same_from start (cut text).lines (cut text).rest (omega (arith, bytes_within text, le))
