use Rattle.plain_rows.proofs.shown.submit.Given as goal

abbrev pub ghosts-submit_counted : goal.ghosts-submit_counted
ghosts-submit_counted g a = record { name = a.blank.name; parts = a.blank.parts }
