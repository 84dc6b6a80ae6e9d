-- The ledger of the steps, which nothing reads.
use Rattle.desk_trials.proofs.tests.desks.other_over.Given as goal

abbrev pub ghosts-first_other : goal.ghosts-first_other
ghosts-first_other a = record { name = a.blank.name; parts = a.blank.parts }
