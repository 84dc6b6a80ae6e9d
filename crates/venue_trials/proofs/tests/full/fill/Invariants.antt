-- The ledger of the steps, which nothing reads.
use Rattle.venue_trials.proofs.tests.full.fill.Given as goal

abbrev pub ghosts-fill_counted : goal.ghosts-fill_counted
ghosts-fill_counted a = record { name = a.blank.name; parts = a.blank.parts }
