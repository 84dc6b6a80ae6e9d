use Rattle.audit_trials.proofs.summaries.what_each_member_did_is_counted.Given as goal

abbrev pub ghosts-look_at_summary : goal.ghosts-look_at_summary
ghosts-look_at_summary g a = record { name = a.blank.name; parts = a.blank.parts }
