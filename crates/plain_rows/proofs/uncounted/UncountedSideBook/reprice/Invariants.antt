use Rattle.plain_rows.proofs.uncounted.UncountedSideBook.reprice.Given as goal

abbrev pub ghosts-reprice_apart : goal.ghosts-reprice_apart
ghosts-reprice_apart g a = record { name = a.blank.name; parts = a.blank.parts }
