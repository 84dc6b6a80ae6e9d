-- What a line does to what a script makes.
use Rattle.std.proofs.Common.{◌≡◌, ℕ, ◌+◌, ◌≤◌, ◌⊎◌, ◌==◌, true, false, List, [], ◌∷◌, ◌++◌, length, take, drop, Option, Some, None, Ok, Err, Result, refl, sym, ◌∙◌, ap, append_assoc, append-nil, inl, inr, arith}
use Rattle.std.proofs.lemmas.Bool.Decides.{nat_tests}
use Rattle.std.proofs.lemmas.List.{take-append-drop}
use Rattle.std.specs.Io.KnownBytes.{Appends}
use Rattle.io_edge.specs.Grows.{AppendsPrefix}
use Rattle.script_text.specs.Lines.{has_end}
use Rattle.script_text.specs.declared.fault.LineFault.{LineFault}
use Rattle.script_text.specs.declared.fault.LineFault.TheVariants.{Bad, Limit, NoMemory}
use Rattle.replay_core.specs.Play.{Place, Played, Stepped, played, step_at, after_line, after_result, onto, stopped}
use Rattle.replay_core.specs.Telling.{Seen, Leads, Begins, Halts}
use Rattle.replay_core.specs.Statuses.{status_of}
use Rattle.replay_core.proofs.Ahead.{played_step}
use Rattle.replay_core.proofs.Leading.{appends_none}

pub worked_line : (s : Stepped) (q : Place) (text : List ℕ) (next : Place → Played) → s.result ≡ Ok (q, text)
    → after_line s next ≡ onto text s.steps (next q)
worked_line s q text next e = ap (λ (r : Result (Place × List ℕ) LineFault). after_result s.steps r next) e

pub refused_line : (s : Stepped) (fault : LineFault) (next : Place → Played) → s.result ≡ Err fault
    → after_line s next ≡ onto [] s.steps (stopped fault)
refused_line s fault next e = ap (λ (r : Result (Place × List ℕ) LineFault). after_result s.steps r next) e

-- the line was worked, and its output was put
pub line_leads : (a b : Seen) (p q : Place) (line text : List ℕ) → has_end line ≡ false → (step_at p line).result ≡ Ok (q, text)
    → b.steps ≤ a.steps + (step_at p line).steps → Appends a.told b.told text
    → Leads a b (λ more. played p (line ++ 10 ∷ more)) (played q)
line_leads a b p q line text clear step steps grew = record {
  done = text;
  grew = grew;
  spent = (step_at p line).steps;
  counted = steps;
  goes = λ more. played_step p line more clear ∙ worked_line (step_at p line) q text (λ q. played q more) step;
}

-- the line was worked, and a beginning of its output was put
pub line_begins : (a b : Seen) (p q : Place) (line text : List ℕ) → has_end line ≡ false → (step_at p line).result ≡ Ok (q, text)
    → b.steps ≤ a.steps + (step_at p line).steps → AppendsPrefix a.told b.told text
    → Begins a b (λ more. played p (line ++ 10 ∷ more))
line_begins a b p q line text clear step steps grew = record {
  done = take grew.0 text;
  grew = grew.1;
  behind = λ more. drop grew.0 text ++ (played q more).text;
  goes = λ more. ap (λ (x : Played). x.text) (played_step p line more clear ∙ worked_line (step_at p line) q text (λ q. played q more) step)
      ∙ ap (λ (front : List ℕ). front ++ (played q more).text) (sym (take-append-drop grew.0 text))
      ∙ append_assoc (take grew.0 text) (drop grew.0 text) (played q more).text;
  counted = λ more.
      let all : (played p (line ++ 10 ∷ more)).steps ≡ (step_at p line).steps + (played q more).steps =
      ap (λ (x : Played). x.steps) (played_step p line more clear ∙ worked_line (step_at p line) q text (λ q. played q more) step) in
      omega (arith, steps, all);
}

-- nothing more is told, and no more steps were counted than these
halts_refused : (a b : Seen) (f : List ℕ → Played) (fault : LineFault) (spent : ℕ) → b.told ≡ a.told → b.steps ≤ a.steps + spent
    → ((more : List ℕ) → spent ≤ (f more).steps)
    → (fault ≡ NoMemory) ⊎ ((more : List ℕ) → f more ≡ onto [] spent (stopped fault)) → Halts a b f (status_of fault)
halts_refused a b f (Bad line cause) spent told steps most (inl e) = absurd (cc)
halts_refused a b f (Bad line cause) spent told steps most (inr h) =
    record { done = []; grew = rw told (appends_none a.told); spent = spent; counted = steps; goes = h }
halts_refused a b f (Limit line which) spent told steps most (inl e) = absurd (cc)
halts_refused a b f (Limit line which) spent told steps most (inr h) =
    record { done = []; grew = rw told (appends_none a.told); spent = spent; counted = steps; goes = h }
halts_refused a b f NoMemory spent told steps most h = record {
  done = [];
  grew = rw told (appends_none a.told);
  behind = λ more. (f more).text;
  goes = λ more. refl;
  counted = λ more. omega (arith, steps, most more);
}

pub either_steps : (n : ℕ) (r : Result (Place × List ℕ) LineFault) (next : Place → Played) → n ≤ (after_result n r next).steps
either_steps n (Ok x) next = omega arith
either_steps n (Err fault) next = omega arith

line_steps : (p : Place) (line more : List ℕ) → has_end line ≡ false → (step_at p line).steps ≤ (played p (line ++ 10 ∷ more)).steps
line_steps p line more clear =
    let n = either_steps (step_at p line).steps (step_at p line).result (λ q. played q more) in
    let all : (played p (line ++ 10 ∷ more)).steps ≡ (after_line (step_at p line) (λ q. played q more)).steps =
    ap (λ (x : Played). x.steps) (played_step p line more clear) in
    omega arith

pub line_refused : (a b : Seen) (p : Place) (line : List ℕ) (fault : LineFault) → has_end line ≡ false → b.told ≡ a.told
    → b.steps ≤ a.steps + (step_at p line).steps → (fault ≡ NoMemory) ⊎ ((step_at p line).result ≡ Err fault)
    → Halts a b (λ more. played p (line ++ 10 ∷ more)) (status_of fault)
line_refused a b p line fault clear told steps (inl none) =
    halts_refused a b _ fault (step_at p line).steps told steps (λ more. line_steps p line more clear) (inl none)
line_refused a b p line fault clear told steps (inr step) =
    halts_refused a b _ fault (step_at p line).steps told steps (λ more. line_steps p line more clear)
    (inr (λ more. played_step p line more clear ∙ refused_line (step_at p line) fault (λ q. played q more) step))

-- who is put nothing was put an empty text
pub nothing_put : (told : Option (List ℕ)) (text : List ℕ) → (length text == 0) ≡ true → Appends told told text
nothing_put None text e = tt
nothing_put (Some bytes) [] e = sym (append-nil bytes)
nothing_put (Some bytes) (byte ∷ text) e = absurd (grind (arith, nat_tests))
