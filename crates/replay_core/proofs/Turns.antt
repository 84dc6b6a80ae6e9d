-- A line at a stage of a script.
use Rattle.std.proofs.Common.{◌≡◌, ◌⊎◌, ℕ, ◌≤◌, ◌+◌, Bool, true, false, List, [], Result, Ok, Err, OnOk, IfErr, refl, sym, ◌∙◌, ap, inl, inr}
use Rattle.venue_words.specs.Floors.{SymbolView}
use Rattle.script_text.specs.declared.header.Header.{Header}
use Rattle.script_text.specs.declared.fault.LineFault.{LineFault}
use Rattle.script_text.specs.declared.fault.LineFault.TheVariants.{NoMemory}
use Rattle.script_text.specs.Header.{header_line}
use Rattle.replay_core.specs.Meets.{MeetsInPlace}
use Rattle.replay_core.specs.Phases.{IsAtStage}
use Rattle.replay_core.specs.Play.{Stage, Head, Body, turned, after_header, after_body}
use Rattle.replay_core.specs.PlayLine.{play_line}
use Rattle.replay_core.specs.Playing.{Playing, before_body}
use Rattle.replay_core.specs.Stages.{Kept, StandsFor}
use Rattle.replay_core.specs.declared.phase.Phase.{Phase}
use Rattle.replay_core.specs.declared.phase.Phase.TheVariants as phase

pub head_refused : {F : Type 0} (at : F → ℕ → SymbolView) (n : ℕ) (header : Header) (stage : Stage) (text : List ℕ) (fault : LineFault)
    → IsAtStage at (phase.Head header) stage → (fault ≡ NoMemory) ⊎ (header_line n header text ≡ Err fault)
    → (fault ≡ NoMemory) ⊎ ((turned n stage text).result ≡ Err fault)
unfolding turned
head_refused at n header (Head other) text fault e (inl none) = inl none
head_refused at n header (Head other) text fault e (inr h) =
    inr (ap (λ (k : Header). after_header (header_line n k text)) (sym e) ∙ ap after_header h)
head_refused at n header (Body playing) text fault e h = absurd e

pub head_goes_on : {F : Type 0} (at : F → ℕ → SymbolView) (n : ℕ) (header next : Header) (whole : Bool) (stage : Stage) (text : List ℕ)
    → IsAtStage at (phase.Head header) stage → header_line n header text ≡ Ok (whole, next) → whole ≡ false
    → (behind : Stage) × ((turned n stage text).result ≡ Ok (behind, [])) × IsAtStage at (phase.Head next) behind
unfolding turned
head_goes_on at n header next whole (Head other) text e h w =
    (Head next, ap (λ (k : Header). after_header (header_line n k text)) (sym e) ∙ ap after_header (h ∙ ap (λ (b : Bool). Ok (b, next)) w), refl)
head_goes_on at n header next whole (Body playing) text e h w = absurd e

pub head_ends : {F : Type 0} (at : F → ℕ → SymbolView) (n : ℕ) (header next : Header) (whole : Bool) (stage : Stage) (text : List ℕ) (begun : Phase F)
    → IsAtStage at (phase.Head header) stage → header_line n header text ≡ Ok (whole, next) → whole ≡ true
    → IsAtStage at begun (Body (before_body next.config))
    → (behind : Stage) × ((turned n stage text).result ≡ Ok (behind, [])) × IsAtStage at begun behind
unfolding turned
head_ends at n header next whole (Head other) text begun e h w s = (
  Body (before_body next.config),
  ap (λ (k : Header). after_header (header_line n k text)) (sym e)
      ∙ ap after_header (h ∙ ap (λ (b : Bool). Ok (b, next)) w),
  s,
)
head_ends at n header next whole (Body playing) text begun e h w s = absurd e

pub head_begins : {F : Type 0} (at : F → ℕ → SymbolView) (n : ℕ) (header next : Header) (whole : Bool) (stage : Stage) (text : List ℕ) (begun : Phase F)
    (result : Result (Unit {0}) LineFault) (out : List ℕ)
    → IsAtStage at (phase.Head header) stage → header_line n header text ≡ Ok (whole, next) → whole ≡ true
    → OnOk result (IsAtStage at begun (Body (before_body next.config))) → IfErr result (λ fault. fault ≡ NoMemory) → out ≡ []
    → MeetsInPlace (IsAtStage at) (turned n stage text).result result begun out
head_begins at n header next whole stage text begun (Ok x) out e h w s none empty =
    let y = head_ends at n header next whole stage text begun e h w s in
    (y.0, y.1 ∙ ap (λ (t : List ℕ). Ok (y.0, t)) (sym empty), y.2)
head_begins at n header next whole stage text begun (Err fault) out e h w s none empty = inl none

pub body_worked : {F : Type 0} (at : F → ℕ → SymbolView) (n : ℕ) (kept next : Kept F) (stage : Stage) (text out : List ℕ) (result : Result (Unit {0}) LineFault)
    → ((playing : Playing) → StandsFor at kept playing → MeetsInPlace (StandsFor at) (play_line n playing text).result result next out)
    → IsAtStage at (phase.Body kept) stage
    → MeetsInPlace (IsAtStage at) (turned n stage text).result result (phase.Body next) out
unfolding turned
body_worked at n kept next (Head header) text out result h s = absurd s
body_worked at n kept next (Body playing) text out (Ok x) h s = let y = h playing s in (Body y.0, ap after_body y.1, y.2)
body_worked at n kept next (Body playing) text out (Err fault) h s =
    elim (h playing s) [ inl none ↦ inl none | inr e ↦ inr (ap after_body e) ]

pub body_steps : {F : Type 0} (at : F → ℕ → SymbolView) (n : ℕ) (kept : Kept F) (stage : Stage) (text : List ℕ) (before after : ℕ)
    → ((playing : Playing) → StandsFor at kept playing → after ≤ before + (play_line n playing text).steps)
    → IsAtStage at (phase.Body kept) stage → after ≤ before + (turned n stage text).steps
unfolding turned
body_steps at n kept (Head header) text before after h s = absurd s
body_steps at n kept (Body playing) text before after h s = h playing s
