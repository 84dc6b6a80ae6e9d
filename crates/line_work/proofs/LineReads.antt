-- What the text of a line does, by what it says.
use Rattle.std.proofs.Common.{◌≡◌, ◌⊎◌, ℕ, List, Option, Result, Ok, Err, refl, sym, ◌∙◌, ap, subst, inl, inr}
use Rattle.std.specs.Prelude.{IsOkAnd}
use Rattle.venue_words.specs.declared.command.Event.{Event}
use Rattle.venue_words.specs.declared.config.Config.{Config}
use Rattle.venue_words.specs.Floors.{FloorMark, SymbolView}
use Rattle.member_gate.specs.declared.refusal.DeskRefusal.{DeskRefusal}
use Rattle.member_gate.specs.declared.refusal.DeskRefusal.TheVariants as refusal
use Rattle.script_text.specs.declared.body.Line.{Line}
use Rattle.script_text.specs.declared.fault.LineFault.{LineFault}
use Rattle.script_text.specs.declared.fault.LineFault.TheVariants.{NoMemory}
use Rattle.script_text.specs.Body.{read_of}
use Rattle.line_work.specs.FeedState.{FeedState}
use Rattle.line_work.specs.LineWork.{LineWork, work_of_line, work_of_read, work_of_text}
use Rattle.line_work.specs.Refusing.{TookPart, IsRefused, refusal_at}
use Rattle.line_work.specs.Standing.{StandsFor, WorkerView}
use Rattle.line_work.proofs.Stops.{stopped_before}

-- what was read by the config of a worker is what the text says to its feed
reads : (worker : WorkerView) (config : Config) (state : FeedState) (text : List ℕ) (read : Result Line LineFault)
    → config ≡ worker.config → StandsFor worker state → read_of config text ≡ read → work_of_text state text ≡ work_of_read state read
unfolding work_of_text
reads worker config state text read e s r =
    ap (work_of_read state) (ap (λ (k : Config). read_of k text) (sym (e ∙ s.config)) ∙ r)

pub read_done : (P : LineWork → Type 0) (worker : WorkerView) (config : Config) (state : FeedState) (text : List ℕ) (line : Line)
    → config ≡ worker.config → StandsFor worker state → read_of config text ≡ Ok line → P (work_of_line state line)
    → IsOkAnd (work_of_text state text) P
read_done P worker config state text line e s r p =
    subst (λ (w : Result LineWork LineFault). IsOkAnd w P) (sym (reads worker config state text (Ok line) e s r)) p

module _ {F : Type 0} (at : F → ℕ → SymbolView) (step_limit : FloorMark → ℕ → List Event → Event → Option ℕ) (mark : FloorMark) (feed : ℕ) where
  pub read_stopped : (worker : WorkerView) (config : Config) (state : FeedState) (text : List ℕ) (line : Line) (stop : DeskRefusal) (fault : LineFault) (before after : F × ℕ)
      → config ≡ worker.config → StandsFor worker state → read_of config text ≡ Ok line → fault ≡ refusal_at 1 stop
      → TookPart at step_limit mark feed (work_of_line state line).state.moment stop (work_of_line state line).submissions before after
      → IsRefused at step_limit mark feed fault (work_of_text state text) before after
  read_stopped worker config state text line stop fault before after e s r f part =
      subst (λ (w : Result LineWork LineFault). IsRefused at step_limit mark feed fault w before after)
      (sym (reads worker config state text (Ok line) e s r)) (stop, f, part)

  no_memory : (work : Result LineWork LineFault) (x : F × ℕ) → IsRefused at step_limit mark feed NoMemory work x x
  no_memory (Ok work) x =
      (refusal.NoMemory, refl, stopped_before at step_limit mark feed work.state.moment work.submissions x)
  no_memory (Err meant) x = (inl refl, refl)

  pub read_refused : (worker : WorkerView) (config : Config) (state : FeedState) (text : List ℕ) (fault : LineFault) (x : F × ℕ)
      → config ≡ worker.config → StandsFor worker state → (fault ≡ NoMemory) ⊎ (read_of config text ≡ Err fault)
      → IsRefused at step_limit mark feed fault (work_of_text state text) x x
  read_refused worker config state text fault x e s (inl none) =
      subst (λ (f : LineFault). IsRefused at step_limit mark feed f (work_of_text state text) x x) (sym none)
      (no_memory (work_of_text state text) x)
  read_refused worker config state text fault x e s (inr r) =
      subst (λ (w : Result LineWork LineFault). IsRefused at step_limit mark feed fault w x x)
      (sym (reads worker config state text (Err fault) e s r)) (inr refl, refl)
