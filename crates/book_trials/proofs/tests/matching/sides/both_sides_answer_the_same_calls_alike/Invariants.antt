use Rattle.book_trials.proofs.tests.matching.sides.both_sides_answer_the_same_calls_alike.Given as goal

abbrev pub ghosts-count_sides : goal.ghosts-count_sides
ghosts-count_sides g a = record { name = a.blank.name; parts = a.blank.parts }
