use Rattle.live_trials.proofs.tests.day.Given as goal

abbrev pub ghosts-served : goal.ghosts-served
ghosts-served a = record { name = a.blank.name; parts = a.blank.parts }
