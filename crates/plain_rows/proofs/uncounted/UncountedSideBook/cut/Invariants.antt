use Rattle.plain_rows.proofs.uncounted.UncountedSideBook.cut.Given as goal

abbrev pub ghosts-cut_apart : goal.ghosts-cut_apart
ghosts-cut_apart g a = record { name = a.blank.name; parts = a.blank.parts }
