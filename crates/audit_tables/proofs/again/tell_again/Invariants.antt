use Rattle.audit_tables.proofs.again.tell_again.Given as goal

abbrev pub ghosts-tell_counted : goal.ghosts-tell_counted
ghosts-tell_counted g a = record { name = a.blank.name; parts = a.blank.parts }
