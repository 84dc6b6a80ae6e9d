use Rattle.std.proofs.Common.{rules}
use Rattle.venue_server.proofs.running.listen.Goals as goal

pub returns-in-Err-clause-words : goal.returns-in-Err-clause-words
returns-in-Err-clause-words g c = search rules
