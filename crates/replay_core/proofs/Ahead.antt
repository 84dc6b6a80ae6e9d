-- What a text makes from a place on, by its first line.
use Rattle.std.proofs.Common.{◌≡◌, ℕ, ◌+◌, ◌<◌, Bool, true, false, List, [], ◌∷◌, ◌++◌, length, Some, refl, arith, nat_lt, cond, length-append}
use Rattle.std.proofs.lemmas.Bool.Decides.{nat_tests}
use Rattle.venue_words.specs.declared.limits.TheConstants.{MAX_LINE_BYTES}
use Rattle.script_text.specs.Lines.{cut, has_end}
use Rattle.script_text.specs.LinesLaws.{cut_joined, cut_first, cut_whole, joined}
use Rattle.script_text.specs.declared.fault.LineFault.TheVariants.{Limit, NoMemory}
use Rattle.script_text.specs.declared.fault.LimitCause.TheVariants.{Line}
use Rattle.replay_core.specs.Play.{Place, Played, Stage, Head, Body, played, play, step_at, end_at, end_of, after_line, stopped, refused_at}

pub played_step : (p : Place) (held more : List ℕ) → has_end held ≡ false
    → played p (held ++ 10 ∷ more) ≡ after_line (step_at p held) (λ q. played q more)
unfolding played play
played_step p held more e = rw (cut_first held more e) refl

pub played_end : (p : Place) (held : List ℕ) → has_end held ≡ false → played p held ≡ end_at p held
unfolding played play
played_end p held e = rw (cut_whole held e) refl

long_step : (p : Place) (held line : List ℕ) → MAX_LINE_BYTES < length held
    → step_at p (held ++ line) ≡ refused_at p (Limit (p.lines + 1) Line)
unfolding step_at
long_step p held line h =
    let long : nat_lt MAX_LINE_BYTES (length (held ++ line)) ≡ true = grind (arith, nat_tests, length-append) in
    rw long refl

long_end : (p : Place) (held rest : List ℕ) → MAX_LINE_BYTES < length held
    → end_at p (held ++ rest) ≡ stopped (Limit (p.lines + 1) Line)
unfolding end_at
long_end p held rest h =
    let long : nat_lt MAX_LINE_BYTES (length (held ++ rest)) ≡ true = grind (arith, nat_tests, length-append) in
    rw long refl

long_joined : (p : Place) (held : List ℕ) (lines : List (List ℕ)) (rest : List ℕ) → MAX_LINE_BYTES < length held
    → play p (joined held lines rest).lines (joined held lines rest).rest ≡ stopped (Limit (p.lines + 1) Line)
unfolding play joined
long_joined p held [] rest h = long_end p held rest h
long_joined p held (line ∷ lines) rest h = rw (long_step p held line h) refl

pub played_long : (p : Place) (held more : List ℕ) → has_end held ≡ false → MAX_LINE_BYTES < length held
    → played p (held ++ more) ≡ stopped (Limit (p.lines + 1) Line)
unfolding played
played_long p held more e h = rw (cut_joined held more e) (long_joined p held (cut more).lines (cut more).rest h)

end_of_text : (n : ℕ) (stage : Stage) (rest : List ℕ) → (end_of n stage rest).text ≡ []
end_of_text n (Head header) rest = refl
end_of_text n (Body playing) [] = refl
end_of_text n (Body playing) (b ∷ rest) = refl

either_text : (b : Bool) (x y : Played) → x.text ≡ [] → y.text ≡ [] → (cond b x y).text ≡ []
either_text true x y e f = e
either_text false x y e f = f

-- what stands behind the last line makes no text and no step
pub end_at_text : (p : Place) (held : List ℕ) → (end_at p held).text ≡ []
unfolding end_at
end_at_text p held = either_text (nat_lt MAX_LINE_BYTES (length held)) _ _ refl (end_of_text (p.lines + 1) p.stage held)

either_steps : (b : Bool) (x y : Played) → x.steps ≡ 0 → y.steps ≡ 0 → (cond b x y).steps ≡ 0
either_steps true x y e f = e
either_steps false x y e f = f

end_of_fault : (n : ℕ) (stage : Stage) (rest : List ℕ) → (end_of n stage rest).fault ≡ Some NoMemory → ⊥
end_of_fault n (Head header) rest e = cc
end_of_fault n (Body playing) [] e = cc
end_of_fault n (Body playing) (b ∷ rest) e = cc

either_fault : (b : Bool) (x y : Played) → (x.fault ≡ Some NoMemory → ⊥) → (y.fault ≡ Some NoMemory → ⊥) → (cond b x y).fault ≡ Some NoMemory → ⊥
either_fault true x y f g e = f e
either_fault false x y f g e = g e

-- a script does not end in want of memory
pub end_at_fault : (p : Place) (held : List ℕ) → (end_at p held).fault ≡ Some NoMemory → ⊥
unfolding end_at
end_at_fault p held = either_fault (nat_lt MAX_LINE_BYTES (length held)) _ _ (λ e. cc) (end_of_fault (p.lines + 1) p.stage held)
