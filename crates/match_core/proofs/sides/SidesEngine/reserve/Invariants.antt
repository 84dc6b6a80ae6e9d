use Rattle.match_core.proofs.sides.SidesEngine.reserve.Given as goal

abbrev pub ghosts-narrow_both : goal.ghosts-narrow_both
ghosts-narrow_both g a = record { name = a.blank.name; parts = a.blank.parts }
