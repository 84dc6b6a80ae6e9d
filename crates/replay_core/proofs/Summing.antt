-- What a player sums up is what the definitions do.
use Rattle.std.proofs.Common.{◌≡◌, ℕ, ◌<◌, List, [], ◌∷◌, length, refl, sym, ◌∙◌, ap, subst, arith}
use Rattle.venue_words.specs.declared.command.Event.{Event}
use Rattle.venue_words.specs.declared.config.Config.{Config}
use Rattle.venue_words.specs.declared.report.Report.{Report}
use Rattle.venue_words.specs.Floors.{SymbolView}
use Rattle.eager_meaning.specs.State.{State, resting}
use Rattle.eager_meaning.specs.Step.{runs}
use Rattle.eager_meaning.specs.Work.{groups}
use Rattle.venue_core.specs.Runs.{run_in}
use Rattle.replay_core.specs.Playing.{Playing, journal_at, reports_in}
use Rattle.replay_core.specs.Stages.{Kept, StandsFor}
use Rattle.replay_core.specs.Summary.{counted, summary_of}
use Rattle.replay_core.specs.declared.summary.Summary.{Summary}

abbrev pub counted_in : Config → List Event → Summary
counted_in config journal =
    counted (length journal) (run_in config 0 journal).reports (length (resting (run_in config 0 journal).state)) (groups (run_in config 0 journal).state)

none_counted : (config : Config) (journals : List (List Event)) → length journals ≡ 0 → counted 0 [] 0 0 ≡ counted_in config (journal_at journals 0)
unfolding run_in runs
none_counted config [] e = refl
none_counted config (journal ∷ journals) e = absurd (omega arith)

-- where there is no symbol
pub none_summed : {F : Type 0} (at : F → ℕ → SymbolView) (kept : Kept F) (playing : Playing) → StandsFor at kept playing
    → length kept.worker.config.symbols ≡ 0 → counted 0 [] 0 0 ≡ summary_of playing
unfolding summary_of
none_summed at kept playing s e =
    none_counted playing.feed.config playing.journals (s.each ∙ ap (λ (c : Config). length c.symbols) (sym s.feed.config) ∙ e)

-- what the floor shows of the first symbol is what its journal makes
pub record Shows {F : Type 0} (at : F → ℕ → SymbolView) (state : F → ℕ → State) (config : Config) (floor : F) : Type 0 where
  pub reports : (at floor 0).reports ≡ reports_in config 0 (at floor 0).journal
  pub state_is : state floor 0 ≡ (run_in config 0 (at floor 0).journal).state

shown_counted : (config : Config) (events : List Event) (reports : List Report) (state : State) → reports ≡ reports_in config 0 events
    → state ≡ (run_in config 0 events).state
    → counted (length events) reports (length (resting state)) (groups state) ≡ counted_in config events
shown_counted config events reports state r e =
    ap (λ (rs : List Report). counted (length events) rs (length (resting state)) (groups state)) r
    ∙ ap (λ (s : State). counted (length events) (run_in config 0 events).reports (length (resting s)) (groups s)) e

pub summed : {F : Type 0} (at : F → ℕ → SymbolView) (state : F → ℕ → State) (kept : Kept F) (playing : Playing) → StandsFor at kept playing
    → 0 < length kept.worker.config.symbols → Shows at state kept.worker.config kept.floor
    → counted (length (at kept.floor 0).journal) (at kept.floor 0).reports (length (resting (state kept.floor 0))) (groups (state kept.floor 0))
    ≡ summary_of playing
unfolding summary_of
summed at state kept playing s l x =
    let inside : 0 < length playing.feed.config.symbols = subst (λ (c : Config). 0 < length c.symbols) s.feed.config l in
    shown_counted kept.worker.config (at kept.floor 0).journal (at kept.floor 0).reports (state kept.floor 0) x.reports x.state_is
    ∙ ap (λ (c : Config). counted_in c (at kept.floor 0).journal) s.feed.config
    ∙ ap (counted_in playing.feed.config) (s.journals 0 inside)
