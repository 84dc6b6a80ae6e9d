use Rattle.audit_trials.proofs.orders.look_at_life.Given as goal

abbrev pub ghosts-life_of-A-Asked : goal.ghosts-life_of-A-Asked
ghosts-life_of-A-Asked g a = record { name = a.name.now; event = a.event }

abbrev pub ghosts-life_of-L-Ledger : goal.ghosts-life_of-L-Ledger
ghosts-life_of-L-Ledger g a = record { name = a.blank.name; parts = a.blank.parts }
