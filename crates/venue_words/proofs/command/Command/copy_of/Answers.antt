use Rattle.std.proofs.Common.{rules}
use Rattle.venue_words.proofs.command.Command.copy_of.Goals as goal

pub returns-in_ok-copy-in-Status : goal.returns-in_ok-copy-in-Status
returns-in_ok-copy-in-Status c = search rules
