use Rattle.audit_trials.proofs.feeds.look_at.Given as goal

abbrev pub ghosts-departures_of : goal.ghosts-departures_of
ghosts-departures_of g a = record { name = a.blank.name; parts = a.blank.parts }
