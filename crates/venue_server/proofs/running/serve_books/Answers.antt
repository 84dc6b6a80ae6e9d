use Rattle.symbol_book.proofs.Sending.{sending}
use Rattle.venue_server.proofs.running.serve_books.Goals as goal

pub serve_all-requires-send-V : goal.serve_all-requires-send-V
serve_all-requires-send-V g c κs lives = search sending depth 30 fits 50000
