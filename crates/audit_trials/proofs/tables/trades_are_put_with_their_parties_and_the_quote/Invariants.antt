use Rattle.audit_trials.proofs.tables.trades_are_put_with_their_parties_and_the_quote.Given as goal

abbrev pub ghosts-look_at_trades : goal.ghosts-look_at_trades
ghosts-look_at_trades g a = record { name = a.blank.name; parts = a.blank.parts }
