-- What a symbol's book came to, in seven numbers.
use Rattle.std.specs.Prelude.{ℕ, ◌/◌, Bool, true, false, List, [], ◌∷◌, ◌++◌, length, decimal, codes, count_by}
use Rattle.venue_words.specs.declared.price.Side.TheVariants.{Buy}
use Rattle.venue_words.specs.declared.report.Execution.TheVariants.{Accepted, Traded}
use Rattle.venue_words.specs.declared.report.Kind.{Kind}
use Rattle.venue_words.specs.declared.report.Kind.TheVariants.{Order, Rejected}
use Rattle.venue_words.specs.declared.report.Report.{Report}
use Rattle.eager_meaning.specs.State.{resting}
use Rattle.eager_meaning.specs.Work.{groups}
use Rattle.market_laws.specs.Trading.{shares_traded}
use Rattle.venue_core.specs.Runs.{run_in}
use Rattle.replay_core.specs.Playing.{Playing, journal_at}
use Rattle.replay_core.specs.declared.summary.Summary.{Summary}

abbrev pub is_accepted : Kind → Bool
is_accepted (Order view Accepted) = true
is_accepted _ = false

abbrev pub is_rejected : Kind → Bool
is_rejected (Rejected id side quantity rule) = true
is_rejected _ = false

abbrev pub is_traded : Kind → Bool
is_traded (Order view (Traded quantity price)) = true
is_traded _ = false

-- so many events, the orders that reports tell as accepted and rejected, the trades, of which each is told by two reports,
-- the shares bought, and so many resting orders in so many peg groups
abbrev pub counted : ℕ → List Report → ℕ → ℕ → Summary
counted events reports resting groups =
    record {
      events = events;
      accepted = count_by (λ report. is_accepted report.kind) reports;
      rejected = count_by (λ report. is_rejected report.kind) reports;
      trades = count_by (λ report. is_traded report.kind) reports / 2;
      shares = shares_traded Buy reports;
      resting = resting;
      groups = groups;
    }

-- of the first symbol
unfoldable pub summary_of : Playing → Summary
summary_of playing =
    let journal = journal_at playing.journals 0 in
    let run = run_in playing.feed.config 0 journal in
    counted (length journal) run.reports (length (resting run.state)) (groups run.state)

abbrev pub labelled : List ℕ → ℕ → List ℕ → List ℕ
labelled label number rest = label ++ (decimal number ++ rest)

unfoldable pub summary_text : Summary → List ℕ
summary_text s =
    labelled (codes "events ") s.events
    (labelled (codes " accepted ") s.accepted
    (labelled (codes " rejected ") s.rejected
    (labelled (codes " trades ") s.trades
    (labelled (codes " shares ") s.shares
    (labelled (codes " resting ") s.resting
    (labelled (codes " groups ") s.groups
    (10 ∷ [])))))))
