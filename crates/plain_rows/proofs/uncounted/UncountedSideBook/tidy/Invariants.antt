use Rattle.plain_rows.proofs.uncounted.UncountedSideBook.tidy.Given as goal

abbrev pub ghosts-tidy_apart : goal.ghosts-tidy_apart
ghosts-tidy_apart g a = record { name = a.blank.name; parts = a.blank.parts }
