use Rattle.audit_report.proofs.orders.add_all.Given as goal

abbrev pub ghosts-add_counted : goal.ghosts-add_counted
ghosts-add_counted a = record { name = a.blank.name; parts = a.blank.parts }
