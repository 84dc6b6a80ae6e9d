use Rattle.symbol_book.proofs.Sending.{sending}
use Rattle.book_trials.proofs.tests.load.many_quotes_over_many_orders_are_fast.Goals as goal

pub sent-book-requires-send-T : goal.sent-book-requires-send-T
sent-book-requires-send-T g c κs = search sending depth 30 fits 50000
