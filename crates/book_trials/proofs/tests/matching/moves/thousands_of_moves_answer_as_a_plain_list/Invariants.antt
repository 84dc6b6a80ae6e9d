use Rattle.book_trials.proofs.tests.matching.moves.thousands_of_moves_answer_as_a_plain_list.Given as goal

abbrev pub ghosts-count_many : goal.ghosts-count_many
ghosts-count_many g a = record { name = a.blank.name; parts = a.blank.parts }
