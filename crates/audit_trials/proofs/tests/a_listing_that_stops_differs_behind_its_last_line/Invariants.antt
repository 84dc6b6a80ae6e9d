use Rattle.audit_trials.proofs.tests.a_listing_that_stops_differs_behind_its_last_line.Given as goal

abbrev pub ghosts-look_at_fronts : goal.ghosts-look_at_fronts
ghosts-look_at_fronts g a = record { name = a.blank.name; parts = a.blank.parts }
