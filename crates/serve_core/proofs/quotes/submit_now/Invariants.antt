use Rattle.serve_core.proofs.quotes.submit_now.Given as goal

abbrev pub ghosts-submit_counted : goal.ghosts-submit_counted
ghosts-submit_counted g a = record { name = a.blank.name; parts = a.blank.parts }
