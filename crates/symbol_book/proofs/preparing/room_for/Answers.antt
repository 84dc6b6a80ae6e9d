use Rattle.std.proofs.Common.{rules}
use Rattle.symbol_book.proofs.preparing.room_for.Goals as goal

pub returns-in-Status : goal.returns-in-Status
returns-in-Status c = search rules
