use Rattle.plain_rows.proofs.uncounted.UncountedSideBook.take_best.Given as goal

abbrev pub ghosts-take_apart : goal.ghosts-take_apart
ghosts-take_apart g a = record { name = a.blank.name; parts = a.blank.parts }
