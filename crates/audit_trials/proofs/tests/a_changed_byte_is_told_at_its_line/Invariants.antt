use Rattle.audit_trials.proofs.tests.a_changed_byte_is_told_at_its_line.Given as goal

abbrev pub ghosts-look_at_bytes : goal.ghosts-look_at_bytes
ghosts-look_at_bytes g a = record { name = a.blank.name; parts = a.blank.parts }
