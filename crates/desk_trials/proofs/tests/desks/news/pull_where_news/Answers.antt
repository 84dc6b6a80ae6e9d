-- The counts are those of both symbols.
use Rattle.std.proofs.Common.{◌≡◌, ℕ, zero, suc, ◌<◌, ◌∷◌, [], List, length, sym, ◌∙◌, ap, arith}
use Rattle.std.specs.Prelude.{slice_index}
use Rattle.venue_words.specs.declared.report.Report.{Report}
use Rattle.venue_words.specs.Floors.{SymbolView}
use Rattle.member_gate.specs.Reporting.{AreFronts}
use Rattle.desk_trials.proofs.tests.desks.news.pull_where_news.Goals as goal

read_of_two : (reports : ℕ → List Report) (first second : ℕ) → first ≡ length (reports 0) → second ≡ length (reports 1)
    → (symbol : ℕ) → symbol < 2 → slice_index (first ∷ second ∷ []) symbol ≡ length (reports symbol)
read_of_two reports first second a b zero lt = a
read_of_two reports first second a b (suc zero) lt = b
read_of_two reports first second a b (suc (suc symbol)) lt = omega arith

two_fronts : (symbols : ℕ) (reports : ℕ → List Report) (first second : ℕ) → symbols ≡ 2 → first ≡ length (reports 0) → second ≡ length (reports 1)
    → AreFronts symbols reports (first ∷ second ∷ [])
two_fronts symbols reports first second is a b =
    record { each = sym is; read = λ symbol lt. read_of_two reports first second a b symbol (omega arith) }

pub pull_known-requires-clause-fronts : goal.pull_known-requires-clause-fronts
pull_known-requires-clause-fronts g c =
    let same = c.front_of-2.ensures.others 0 (omega arith) in
    two_fronts (length c.args.config.now.symbols) (λ symbol. (g.F.Floor.at c.front_of-2.new.floor symbol).reports) _ _ c.requires.symbols
    (c.in_ok-first.ensures.front ∙ ap (λ (view : SymbolView). length view.reports) (sym same)) c.in_ok-second.ensures.front
