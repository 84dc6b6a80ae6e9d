-- A line of a body, as a line at a stage.
use Rattle.std.proofs.Common.{◌≡◌, ◌≢◌, ◌⊎◌, ℕ, Bool, true, false, List, Result, Ok, Err, IfOk, ◌∙◌, ap, subst, inl, inr}
use Rattle.venue_words.specs.Floors.{SymbolView}
use Rattle.venue_words.specs.declared.config.Config.{Config}
use Rattle.script_text.specs.Body.{read_of}
use Rattle.script_text.specs.declared.body.Line.{Line}
use Rattle.script_text.specs.declared.fault.LineFault.{LineFault}
use Rattle.script_text.specs.declared.fault.LineFault.TheVariants.{NoMemory}
use Rattle.line_work.specs.Refusing.{fault_at}
use Rattle.replay_core.specs.Phases.{IsAtStage}
use Rattle.replay_core.specs.Play.{Stage, Head, Body, turned, after_body}
use Rattle.replay_core.specs.PlayLine.{Answer, play_line, play_read}
use Rattle.replay_core.specs.PlayLineLaws.{line_unread}
use Rattle.replay_core.specs.Playing.{Playing}
use Rattle.replay_core.specs.Stages.{Kept, StandsFor}
use Rattle.replay_core.specs.declared.phase.Phase.{Phase}
use Rattle.replay_core.specs.declared.phase.Phase.TheVariants as phase
use Rattle.live_core.specs.declared.machine.Halt.{Halt}
use Rattle.live_machine.specs.Taking.{IsRefused, TakesLine}

unread_refused : (n : ℕ) (playing : Playing) (config : Config) (text : List ℕ) (fault : LineFault) → config ≡ playing.feed.config
    → (fault ≡ NoMemory) ⊎ (read_of config text ≡ Err fault) → fault ≢ NoMemory → IsRefused (play_line n playing text).result
unread_refused n playing config text fault same (inl none) not = absurd (not none)
unread_refused n playing config text fault same (inr e) not = (fault_at n fault, line_unread n playing config text fault same e)

-- a line that can't be read is refused, and nothing changes
pub unread_takes : {F : Type 0} (at : F → ℕ → SymbolView) (n : ℕ) (kept : Kept F) (text out : List ℕ) (fault : LineFault) (result : Result Bool Halt)
    → IfOk result (λ taken. (taken ≡ false) × (fault ≢ NoMemory)) → (fault ≡ NoMemory) ⊎ (read_of kept.worker.config text ≡ Err fault)
    → IfOk result (λ taken. (playing : Playing) → StandsFor at kept playing → TakesLine (StandsFor at) (play_line n playing text).result playing kept out taken)
unread_takes at n kept text out fault (Ok true) x e = absurd (let is = x.0 in cc)
unread_takes at n kept text out fault (Ok false) x e =
    λ playing s. (unread_refused n playing kept.worker.config text fault s.feed.config e x.1, s)
unread_takes at n kept text out fault (Err halt) x e = tt

-- a line at which the work halts is refused
pub halted_refused : (n : ℕ) (playing : Playing) (text : List ℕ) (read : Line) (stop : LineFault) → play_line n playing text ≡ play_read n playing read
    → (stop ≡ NoMemory) ⊎ ((play_read n playing read).result ≡ Err stop) → stop ≢ NoMemory → IsRefused (play_line n playing text).result
halted_refused n playing text read stop same (inl none) not = absurd (not none)
halted_refused n playing text read stop same (inr e) not = (stop, ap (λ (a : Answer). a.result) same ∙ e)

-- ---- at a stage

body_takes : {F : Type 0} (at : F → ℕ → SymbolView) (n : ℕ) (kept next : Kept F) (text out : List ℕ) (taken : Bool) (stage : Stage)
    → ((playing : Playing) → StandsFor at kept playing → TakesLine (StandsFor at) (play_line n playing text).result playing next out taken)
    → IsAtStage at (phase.Body kept) stage → TakesLine (IsAtStage at) (turned n stage text).result stage (phase.Body next) out taken
unfolding turned
body_takes at n kept next text out taken (Head header) h s = absurd s
body_takes at n kept next text out true (Body playing) h s = let x = h playing s in (Body x.0, ap after_body x.1, x.2)
body_takes at n kept next text out false (Body playing) h s = let x = h playing s in ((x.0.0, ap after_body x.0.1), x.1)

pub body_takes_if : {F : Type 0} (at : F → ℕ → SymbolView) (n : ℕ) (before : Phase F) (kept next : Kept F) (text out : List ℕ) (result : Result Bool Halt)
    → before ≡ phase.Body kept
    → IfOk result (λ taken. (playing : Playing) → StandsFor at kept playing → TakesLine (StandsFor at) (play_line n playing text).result playing next out taken)
    → IfOk result (λ taken. (stage : Stage) → IsAtStage at before stage → TakesLine (IsAtStage at) (turned n stage text).result stage (phase.Body next) out taken)
body_takes_if at n before kept next text out (Ok taken) is h =
    λ stage s. body_takes at n kept next text out taken stage h (subst (λ (p : Phase _). IsAtStage at p stage) is s)
body_takes_if at n before kept next text out (Err halt) is h = tt

pub body_refused : {F : Type 0} (at : F → ℕ → SymbolView) (n : ℕ) (kept : Kept F) (text : List ℕ) (stage : Stage)
    → ((playing : Playing) → StandsFor at kept playing → IsRefused (play_line n playing text).result)
    → IsAtStage at (phase.Body kept) stage → IsRefused (turned n stage text).result
unfolding turned
body_refused at n kept text (Head header) h s = absurd s
body_refused at n kept text (Body playing) h s = let x = h playing s in (x.0, ap after_body x.1)
