use Rattle.plain_rows.proofs.uncounted.UncountedSideBook.put.Given as goal

abbrev pub ghosts-put_apart : goal.ghosts-put_apart
ghosts-put_apart g a = record { name = a.blank.name; parts = a.blank.parts }
