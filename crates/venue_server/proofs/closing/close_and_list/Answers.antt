use Rattle.std.proofs.Common.{rules}
use Rattle.venue_server.proofs.closing.close_and_list.Goals as goal

pub returns-in-Ok-list_books-clause-listed : goal.returns-in-Ok-list_books-clause-listed
returns-in-Ok-list_books-clause-listed g c = search rules

pub returns-in-Err-WriteFault-clause-listed : goal.returns-in-Err-WriteFault-clause-listed
returns-in-Err-WriteFault-clause-listed g c = search rules

pub returns-clause-listed : goal.returns-clause-listed
returns-clause-listed g c = search rules
