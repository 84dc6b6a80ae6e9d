-- What a machine that has taken lines makes of one more.
use Rattle.std.proofs.Common.{◌≡◌, ◌+◌, ℕ, Bool, true, false, List, ◌++◌, length, Option, None, Some, option_map, Result, Ok, Err, refl, sym, ◌∙◌, ap, subst}
use Rattle.std.specs.Result.{result_ok}
use Rattle.venue_words.specs.Floors.{SymbolView}
use Rattle.script_text.specs.declared.fault.LineFault.{LineFault}
use Rattle.replay_core.specs.Phases.{IsAtStage}
use Rattle.replay_core.specs.Play.{Place, Stage, start, turned, placed, next_place}
use Rattle.replay_core.specs.declared.phase.Phase.{Phase}
use Rattle.live_core.specs.Lines.{Answers}
use Rattle.live_machine.specs.Taking.{fits, taken_at, place_after, yields, machine_of, HasTaken, IsRefused, TakesLine}
use Rattle.live_machine.proofs.Fitting.{place_push, yields_at, fit, unfit}

taken_yields : (past : List (List ℕ)) (place : Place) (line : List ℕ) (o : Option (Place × List ℕ)) → place_after past ≡ Some place → taken_at place line ≡ o
    → yields past line ≡ option_map (λ (x : Place × List ℕ). x.1) o
taken_yields past place line o there is =
    yields_at past place line there ∙ ap (option_map (λ (x : Place × List ℕ). x.1)) is

answers : (has_taken : List (List ℕ) → Type 0) (o : Option (List ℕ)) (meant : Option (List ℕ)) (past : List (List ℕ)) (line before after : List ℕ) (taken : Bool)
    → o ≡ meant → Answers has_taken meant past line before after taken → Answers has_taken o past line before after taken
answers has_taken o meant past line before after taken e a = subst (λ (m : Option (List ℕ)). Answers has_taken m past line before after taken) (sym e) a

module _ {F : Type 0} (at : F → ℕ → SymbolView) (phase : Phase F) (lines bytes steps : ℕ) where
  -- a line that may not stand where the machine is
  pub unfit_refused : (past : List (List ℕ)) (text out : List ℕ) → fits bytes text ≡ false → HasTaken at (machine_of phase lines bytes steps) past
      → Answers (HasTaken at (machine_of phase lines bytes steps)) (yields past text) past text out out false
  unfit_refused past text out e h =
      let none = unfit h.0 text (ap (λ (b : ℕ). fits b text) (sym h.2.bytes) ∙ e) in
      answers (HasTaken at (machine_of phase lines bytes steps)) (yields past text) None past text out out false
      (taken_yields past h.0 text None h.1 none) (refl, h)

  refused_at_stage : (past : List (List ℕ)) (text : List ℕ) → fits bytes text ≡ true → (h : HasTaken at (machine_of phase lines bytes steps) past)
      → IsRefused (turned (lines + 1) h.0.stage text).result → yields past text ≡ None
  refused_at_stage past text e h r =
      let meant : (turned (h.0.lines + 1) h.0.stage text).result ≡ Err r.0 =
      ap (λ (n : ℕ). (turned (n + 1) h.0.stage text).result) (sym h.2.lines) ∙ r.1 in
      taken_yields past h.0 text None h.1
      (fit h.0 text (ap (λ (b : ℕ). fits b text) (sym h.2.bytes) ∙ e)
      ∙ ap (λ (m : Result (Stage × List ℕ) LineFault). result_ok (placed h.0 text m)) meant)

  -- a line at which the machine halts
  pub halt_refused : (past : List (List ℕ)) (text : List ℕ) → fits bytes text ≡ true → HasTaken at (machine_of phase lines bytes steps) past
      → ((stage : Stage) → IsAtStage at phase stage → IsRefused (turned (lines + 1) stage text).result) → yields past text ≡ None
  halt_refused past text e h refused = refused_at_stage past text e h (refused h.0.stage h.2.stage)

  -- a line that changed nothing
  pub turn_refused : (past : List (List ℕ)) (text out told : List ℕ) (now : Phase F) (counted : ℕ) → fits bytes text ≡ true
      → HasTaken at (machine_of phase lines bytes steps) past
      → ((stage : Stage) → IsAtStage at phase stage → TakesLine (IsAtStage at) (turned (lines + 1) stage text).result stage now told false)
      → Answers (HasTaken at (machine_of now lines bytes counted)) (yields past text) past text out out false
  turn_refused past text out told now counted e h takes =
      let x = takes h.0.stage h.2.stage in
      answers (HasTaken at (machine_of now lines bytes counted)) (yields past text) None past text out out false
      (refused_at_stage past text e h x.0)
      (refl, (h.0, h.1, record { stage = x.1; lines = h.2.lines; bytes = h.2.bytes }))

  -- a line that was taken
  pub turn_taken : (past : List (List ℕ)) (text out told : List ℕ) (now : Phase F) (counted total : ℕ) → total ≡ bytes + length text + 1 → fits bytes text ≡ true
      → HasTaken at (machine_of phase lines bytes steps) past
      → ((stage : Stage) → IsAtStage at phase stage → TakesLine (IsAtStage at) (turned (lines + 1) stage text).result stage now told true)
      → Answers (HasTaken at (machine_of now (lines + 1) total counted)) (yields past text) past text out (out ++ told) true
  turn_taken past text out told now counted total sum e h takes =
      let x = takes h.0.stage h.2.stage in
      let next = next_place h.0 text x.0 in
      let meant : (turned (h.0.lines + 1) h.0.stage text).result ≡ Ok (x.0, told) =
      ap (λ (n : ℕ). (turned (n + 1) h.0.stage text).result) (sym h.2.lines) ∙ x.1 in
      let is : taken_at h.0 text ≡ Some (next, told) =
      fit h.0 text (ap (λ (b : ℕ). fits b text) (sym h.2.bytes) ∙ e)
      ∙ ap (λ (m : Result (Stage × List ℕ) LineFault). result_ok (placed h.0 text m)) meant in
      answers (HasTaken at (machine_of now (lines + 1) total counted)) (yields past text) (Some told) past text out (out ++ told) true
      (taken_yields past h.0 text (Some (next, told)) h.1 is) (
        refl,
        (
          next,
          place_push start past text h.0 (next, told) h.1 is,
          record {
            stage = x.2;
            lines = ap (λ (n : ℕ). n + 1) h.2.lines;
            bytes = sum ∙ ap (λ (b : ℕ). b + length text + 1) h.2.bytes;
          },
        ),
      )
