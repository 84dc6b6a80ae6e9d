use Rattle.plain_rows.proofs.uncounted.UncountedSideBook.put_back.Given as goal

abbrev pub ghosts-put_back_apart : goal.ghosts-put_back_apart
ghosts-put_back_apart g a = record { name = a.blank.name; parts = a.blank.parts }
