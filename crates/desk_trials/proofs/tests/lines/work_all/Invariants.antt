use Rattle.venue_words.specs.Floors.{IsSetUpFor}
use Rattle.desk_trials.proofs.tests.lines.work_all.Given as goal

-- the floor stays set up for the worker's config
abbrev pub invariant-loop-line : goal.invariant-loop-line
invariant-loop-line g l = IsSetUpFor l.worker.config (g.F.Floor.mark l.floor).setup
