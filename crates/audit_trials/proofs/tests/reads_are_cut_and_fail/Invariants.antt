use Rattle.audit_trials.proofs.tests.reads_are_cut_and_fail.Given as goal

abbrev pub ghosts-look_at_reads : goal.ghosts-look_at_reads
ghosts-look_at_reads g a = record { name = a.blank.name; parts = a.blank.parts }
