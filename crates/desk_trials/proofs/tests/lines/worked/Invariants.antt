-- The ledger of the steps, which nothing reads.
use Rattle.desk_trials.proofs.tests.lines.worked.Given as goal

abbrev pub ghosts-work_all : goal.ghosts-work_all
ghosts-work_all a = record { name = a.blank.name; parts = a.blank.parts }
