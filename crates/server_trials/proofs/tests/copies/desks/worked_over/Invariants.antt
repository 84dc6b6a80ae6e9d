-- The ledger of the steps, which nothing reads.
use Rattle.server_trials.proofs.tests.copies.desks.worked_over.Given as goal

abbrev pub ghosts-trade : goal.ghosts-trade
ghosts-trade g a = record { name = a.blank.name; parts = a.blank.parts }
