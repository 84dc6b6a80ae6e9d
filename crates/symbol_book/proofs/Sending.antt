-- A book may go to another thread.
use denote.Param.Send.{sendable}
use Rattle.match_core.proofs.Sending.{sides_send}
use Rattle.symbol_book.proofs.book.BookOver.TheSendSync as book

-- what shows it of the book that ships
pub ruleset sending = (book.the_send, sides_send, sendable)
