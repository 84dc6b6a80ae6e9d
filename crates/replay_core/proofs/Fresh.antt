-- What is kept before the first line of a body.
use Rattle.std.proofs.Common.{◌≡◌, ℕ, zero, suc, List, [], length, replicate, refl, sym, ap, subst, None, ◌∙◌}
use Rattle.std.proofs.lemmas.List.{get_or-replicate, length-replicate}
use Rattle.venue_words.specs.declared.command.Event.{Event}
use Rattle.venue_words.specs.declared.config.Config.{Config}
use Rattle.venue_words.specs.Floors.{FloorMark, SymbolView}
use Rattle.eager_meaning.specs.State.{State}
use Rattle.eager_meaning.specs.Step.{runs}
use Rattle.line_work.specs.FeedState.{before_lines}
use Rattle.line_work.specs.Standing.{WorkerView, fresh_worker}
use Rattle.line_work.specs.Standing as feed
use Rattle.venue_core.specs.Runs.{run_in}
use Rattle.replay_core.specs.PlainFloor.{IsPlain}
use Rattle.replay_core.specs.Playing.{before_body, reports_in}
use Rattle.replay_core.specs.Pulling.{ShowsFronts}
use Rattle.replay_core.specs.Stages.{StandsFor, kept_of}
use Rattle.replay_core.proofs.Lists.{sent_first, no_journal}

length_none : (n : ℕ) → length (replicate {A = List Event} n []) ≡ n
length_none zero = refl
length_none (suc n) = ap suc (length_none n)

no_reports : (config : Config) (symbol : ℕ) → length (reports_in config symbol []) ≡ 0
unfolding run_in runs
no_reports config symbol = refl

fronts_first : {F : Type 0} (mark_of : F → FloorMark) (at : F → ℕ → SymbolView) (limit : FloorMark → ℕ → List Event → Event → _) (state : F → ℕ → State) (config : Config) (floor : F) (fronts : List ℕ)
    → IsPlain mark_of at limit state config (mark_of floor) → ((symbol : ℕ) → (at floor symbol).journal ≡ [])
    → fronts ≡ replicate (length config.symbols) 0 → ShowsFronts at config floor fronts
fronts_first mark_of at limit state config floor fronts plain empty none = record {
  each = ap (length {A = ℕ}) none ∙ length-replicate (length config.symbols) 0;
  read = λ symbol l.
      let front : _ ≡ 0 = get_or-replicate (length config.symbols) symbol 0 0 l in
      rw none front ∙ sym (no_reports config symbol) ∙ ap (λ (j : List Event). length (reports_in config symbol j)) (sym (empty symbol))
      ∙ ap (length {A = _}) (sym (plain.reports floor symbol refl l));
}

pub stands_first : {F : Type 0} (mark_of : F → FloorMark) (at : F → ℕ → SymbolView) (limit : FloorMark → ℕ → List Event → Event → _) (state : F → ℕ → State) (config : Config) (floor : F) (fronts : List ℕ) (worker : WorkerView)
    → worker ≡ fresh_worker config → feed.StandsFor worker (before_lines config)
    → IsPlain mark_of at limit state config (mark_of floor) → ((symbol : ℕ) → (at floor symbol).journal ≡ [])
    → fronts ≡ replicate (length config.symbols) 0 → StandsFor at (kept_of worker floor fronts None) (before_body config)
stands_first mark_of at limit state config floor fronts worker e stands plain empty none =
    let here : feed.StandsFor (fresh_worker config) (before_lines config) =
    subst (λ (w : WorkerView). feed.StandsFor w (before_lines config)) e stands in
    subst (λ (w : WorkerView). StandsFor at (kept_of w floor fronts None) (before_body config)) (sym e) (record {
      clear = refl;
      feed = here;
      cursors = sent_first config (replicate (length config.symbols) []) 0 (length config.members);
      journals = λ symbol l. empty symbol ∙ sym (no_journal (length config.symbols) symbol);
      each = length_none (length config.symbols);
      fronts = fronts_first mark_of at limit state config floor fronts plain empty none;
    })
