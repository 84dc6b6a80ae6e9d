use Rattle.std.proofs.Common.{All}
use Rattle.day_journal.specs.Log.{IsShortLine}
use Rattle.live_edge.proofs.pieces.push_pieces.Given as goal

abbrev pub invariant-loop-piece : goal.invariant-loop-piece
invariant-loop-piece l = All IsShortLine l.lines.items
