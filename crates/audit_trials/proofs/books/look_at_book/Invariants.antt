use Rattle.audit_trials.proofs.books.look_at_book.Given as goal

abbrev pub ghosts-book_of-A-Asked : goal.ghosts-book_of-A-Asked
ghosts-book_of-A-Asked g a = record { name = a.name.now; event = a.event }

abbrev pub ghosts-book_of-L-Ledger : goal.ghosts-book_of-L-Ledger
ghosts-book_of-L-Ledger g a = record { name = a.blank.name; parts = a.blank.parts }
