-- What the text of a line does, by what was read of it.
use Rattle.std.proofs.Common.{◌≡◌, ◌⊎◌, ℕ, List, Result, Ok, Err, sym, ◌∙◌, ap, subst, inl, inr}
use Rattle.std.specs.Prelude.{IsOkAnd}
use Rattle.venue_words.specs.declared.config.Config.{Config}
use Rattle.script_text.specs.declared.body.Line.{Line}
use Rattle.script_text.specs.declared.fault.LineFault.{LineFault}
use Rattle.script_text.specs.declared.fault.LineFault.TheVariants.{NoMemory}
use Rattle.script_text.specs.Body.{read_of}
use Rattle.script_text.specs.Meets.{Meets}
use Rattle.line_work.specs.FeedState.{FeedState}
use Rattle.line_work.specs.LineWork.{LineWork, work_of_line, work_of_read, work_of_text}
use Rattle.line_work.specs.Standing.{StandsFor, WorkerView}

-- a line that was read
pub read_line_of : (meant read : Result Line LineFault) (line : Line) → Meets meant read → read ≡ Ok line → meant ≡ Ok line
read_line_of meant read line m e = subst (Meets meant) e m

reads : (worker : WorkerView) (config : Config) (state : FeedState) (text : List ℕ) (line : Line)
    → config ≡ worker.config → StandsFor worker state → read_of config text ≡ Ok line → work_of_text state text ≡ Ok (work_of_line state line)
unfolding work_of_text
reads worker config state text line e s r =
    ap (work_of_read state) (ap (λ (k : Config). read_of k text) (sym (e ∙ s.config)) ∙ r)

-- what it does
pub read_does : (P : LineWork → Type 0) (worker : WorkerView) (config : Config) (state : FeedState) (text : List ℕ) (line : Line)
    → config ≡ worker.config → StandsFor worker state → read_of config text ≡ Ok line → P (work_of_line state line)
    → IsOkAnd (work_of_text state text) P
read_does P worker config state text line e s r p =
    subst (λ (w : Result LineWork LineFault). IsOkAnd w P) (sym (reads worker config state text line e s r)) p

-- what holds at what was read holds at what is meant, or memory was wanted
pub read_stops : (P : Result Line LineFault → Type 0) (meant read : Result Line LineFault) (fault : LineFault) → Meets meant read
    → (read ≡ Err NoMemory → fault ≡ NoMemory) → (fault ≡ NoMemory) ⊎ P read → (fault ≡ NoMemory) ⊎ P meant
read_stops P meant read fault m none (inl e) = inl e
read_stops P meant (Ok line) fault m none (inr p) = inr (subst P (sym m) p)
read_stops P meant (Err other) fault (inl e) none (inr p) = inl (none (ap Err e))
read_stops P meant (Err other) fault (inr e) none (inr p) = inr (subst P (sym e) p)
