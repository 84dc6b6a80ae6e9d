use Rattle.symbol_book.proofs.Sending.{sending}
use Rattle.venue_trials.proofs.tests.venues.run_threads.Goals as goal

pub run-requires-send-V : goal.run-requires-send-V
run-requires-send-V g c κs within = search sending depth 30 fits 50000
