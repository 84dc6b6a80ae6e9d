-- The ledger of the steps, which nothing reads.
use Rattle.venue_trials.proofs.tests.gates.answers_of.Given as goal

abbrev pub ghosts-submit_and_look : goal.ghosts-submit_and_look
ghosts-submit_and_look g a = record { name = a.blank.name; parts = a.blank.parts }
