use Rattle.book_trials.proofs.tests.matching.moves.a_dip_below_a_limit_and_back_is_a_change.Given as goal

abbrev pub ghosts-count_example : goal.ghosts-count_example
ghosts-count_example g a = record { name = a.blank.name; parts = a.blank.parts }
