use Rattle.plain_rows.proofs.uncounted.UncountedSideBook.best_value.Given as goal

abbrev pub ghosts-best_apart : goal.ghosts-best_apart
ghosts-best_apart g a = record { name = a.blank.name; parts = a.blank.parts }
