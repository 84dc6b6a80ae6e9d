-- The ledger of the steps, which nothing reads.
use Rattle.venue_trials.proofs.tests.gates.submit_all.Given as goal

abbrev pub ghosts-submit_counted : goal.ghosts-submit_counted
ghosts-submit_counted g a = record { name = a.blank.name; parts = a.blank.parts }
