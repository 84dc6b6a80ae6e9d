use Rattle.book_trials.proofs.tests.matching.tree.look_ups_answer_as_a_plain_list.Given as goal

abbrev pub ghosts-count_steps : goal.ghosts-count_steps
ghosts-count_steps g a = record { name = a.blank.name; parts = a.blank.parts }
