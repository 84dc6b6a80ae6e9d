use Rattle.pegaudit.proofs.lookups.book.Given as goal

abbrev pub ghosts-put_asked : goal.ghosts-put_asked
ghosts-put_asked g a = record { name = a.name.now; event = a.event }

abbrev pub ghosts-put_by_time : goal.ghosts-put_by_time
ghosts-put_by_time g a = record { symbol = a.symbol.now; time = a.time }

abbrev pub ghosts-put_book_with : goal.ghosts-put_book_with
ghosts-put_book_with g a = record { symbol = a.symbol.now; member = a.member.now; id = a.id.now }
