-- The ledgers of the steps, which nothing reads.
use Rattle.venue_trials.proofs.tests.any_floor.look_on_both.Given as goal

abbrev pub ghosts-look_plain : goal.ghosts-look_plain
ghosts-look_plain g a = record { name = a.blank.name; parts = a.blank.parts }

abbrev pub ghosts-look_seated : goal.ghosts-look_seated
ghosts-look_seated g a = record { name = a.blank.name; parts = a.blank.parts }
