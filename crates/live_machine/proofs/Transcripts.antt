-- What `pegreplay` prints of lines that are taken.
use Rattle.std.proofs.Common.{◌≡◌, ◌+◌, ℕ, List, [], ◌∷◌, ◌++◌, length, Option, None, Some, option_map, refl, sym, ◌∙◌, ap, append-nil, arith}
use Rattle.std.specs.Option.{option_and_then}
use Rattle.replay_core.specs.Play.{Place, Played, Stage, Body, played, step_at, end_at, end_of, onto, start}
use Rattle.replay_core.specs.Playing.{Playing}
use Rattle.replay_core.proofs.Ahead.{played_step, played_end, end_at_text}
use Rattle.replay_core.proofs.Leading.{onto_nothing, onto_onto}
use Rattle.replay_core.proofs.LineByLine.{worked_line}
use Rattle.live_core.specs.Lines.{keeping, kept, output}
use Rattle.live_core.proofs.Laws.{kept-append, kept-kept, kept-length, output-append, output-kept, output-taken}
use Rattle.live_machine.specs.Taking.{taken_at, place_from, place_after, yields}
use Rattle.live_machine.specs.Transcript.{AreTaken, HasWholeHeader, script_of, replayed}
use Rattle.live_machine.proofs.Fitting.{place_push, taken_says, yields_at}

-- a line that yields something
record Yields (past : List (List ℕ)) (line : List ℕ) (lines : List (List ℕ)) : Type 0 where
  text : List ℕ
  is : yields past line ≡ Some text
  rest : kept yields (past ++ line ∷ []) lines ≡ lines

first_taken : (past : List (List ℕ)) (line : List ℕ) (lines : List (List ℕ)) → kept yields past (line ∷ lines) ≡ line ∷ lines → Yields past line lines
first_taken past line lines all =
    (elim (yields past line) as (λ o. yields past line ≡ o
    → keeping o line (kept yields past lines) (kept yields (past ++ line ∷ []) lines) ≡ line ∷ lines → Yields past line lines) [
      | None ↦ λ is same. absurd (omega (arith, ap length same, kept-length yields past lines))
      | Some text ↦ λ is same. record { text = text; is = is; rest = cc }
    ]) refl all

mapped : (o : Option (Place × List ℕ)) (text : List ℕ) → option_map (λ (x : Place × List ℕ). x.1) o ≡ Some text
    → (x : Place × List ℕ) × (o ≡ Some x) × (x.1 ≡ text)
mapped None text e = absurd (cc)
mapped (Some x) text e = (x, refl, cc)

-- from a place on, lines that are taken make the text that they yield, and then what stands after them
record Plays (past lines : List (List ℕ)) (place : Place) : Type 0 where
  last : Place
  there : place_from place lines ≡ Some last
  steps : ℕ
  goes : played place (script_of lines) ≡ onto (output yields past lines) steps (end_at last [])

plays : (past lines : List (List ℕ)) (place : Place) → place_after past ≡ Some place → kept yields past lines ≡ lines → Plays past lines place
plays past [] place there all =
    record { last = place; there = refl; steps = 0; goes = played_end place [] refl ∙ onto_nothing (end_at place []) }
plays past (line ∷ lines) place there all =
    let one = first_taken past line lines all in
    let x = mapped (taken_at place line) one.text (sym (yields_at past place line there) ∙ one.is) in
    let says = taken_says place line x.0 x.1 in
    let next = plays (past ++ line ∷ []) lines x.0.0 (place_push start past line place x.0 there x.1) one.rest in
    let n = (step_at place line).steps in
    record {
      last = next.last;
      there = ap (option_and_then (λ (y : Place × List ℕ). place_from y.0 lines)) x.1 ∙ next.there;
      steps = n + next.steps;
      goes = played_step place line (script_of lines) says.0
          ∙ worked_line (step_at place line) x.0.0 x.0.1 (λ q. played q (script_of lines)) says.1
          ∙ ap (onto x.0.1 n) next.goes
          ∙ onto_onto x.0.1 (output yields (past ++ line ∷ []) lines) n next.steps (end_at next.last [])
          ∙ ap (λ (o : List ℕ). onto o (n + next.steps) (end_at next.last []))
          (ap (λ (t : List ℕ). t ++ output yields (past ++ line ∷ []) lines) x.2 ∙ sym (output-taken yields past line lines one.text one.is));
    }

pub transcript : (lines : List (List ℕ)) → AreTaken lines → output yields [] lines ≡ (replayed lines).text
transcript lines all =
    let p = plays [] lines start refl all in
    sym (ap (λ (x : Played). x.text) p.goes ∙ ap (λ (t : List ℕ). output yields [] lines ++ t) (end_at_text p.last []) ∙ append-nil (output yields [] lines))

-- after a whole header a script may end
ends_well : (place : Place) (playing : Playing) → place.stage ≡ Body playing → (end_at place []).fault ≡ None
unfolding end_at
ends_well place playing e = ap (λ (s : Stage). (end_of (place.lines + 1) s []).fault) e

pub whole : (lines : List (List ℕ)) → AreTaken lines → HasWholeHeader lines → (replayed lines).fault ≡ None
whole lines all header =
    let p = plays [] lines start refl all in
    let same : p.last ≡ header.0 = cc in
    ap (λ (x : Played). x.fault) p.goes ∙ ends_well p.last header.1 (ap (λ (q : Place). q.stage) same ∙ header.3)

pub goes_on : (past more : List (List ℕ)) → AreTaken past → AreTaken (past ++ kept yields past more)
goes_on past more all =
    kept-append yields [] past (kept yields past more)
    ∙ ap (λ (l : List (List ℕ)). l ++ kept yields l (kept yields past more)) all
    ∙ ap (λ (l : List (List ℕ)). past ++ l) (kept-kept yields past more)

pub run : (past more : List (List ℕ)) → AreTaken past
    → (replayed (past ++ kept yields past more)).text ≡ (replayed past).text ++ output yields past more
run past more all =
    sym (transcript (past ++ kept yields past more) (goes_on past more all))
    ∙ output-append yields [] past (kept yields past more)
    ∙ ap (λ (l : List (List ℕ)). output yields [] past ++ output yields l (kept yields past more)) all
    ∙ ap (λ (t : List ℕ). output yields [] past ++ t) (output-kept yields past more)
    ∙ ap (λ (t : List ℕ). t ++ output yields past more) (transcript past all)
