use Rattle.audit_trials.proofs.tables.a_table_that_cannot_be_put_is_a_write_fault.Given as goal

abbrev pub ghosts-look_at_puts : goal.ghosts-look_at_puts
ghosts-look_at_puts g a = record { name = a.blank.name; parts = a.blank.parts }
