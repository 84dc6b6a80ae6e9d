use Rattle.audit_report.proofs.rests.count_rests.Given as goal

abbrev pub ghosts-rests_counted : goal.ghosts-rests_counted
ghosts-rests_counted a = record { name = a.blank.name; parts = a.blank.parts }
