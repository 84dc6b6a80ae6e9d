use Rattle.plain_rows.proofs.uncounted.UncountedSideBook.priced.Given as goal

abbrev pub ghosts-priced_apart : goal.ghosts-priced_apart
ghosts-priced_apart g a = record { name = a.blank.name; parts = a.blank.parts }
