use Rattle.std.proofs.Common.{◌≡◌, ◌++◌, All, take, map}
use Rattle.day_journal.specs.Log.{IsShortLine}
use Rattle.live_words.specs.Lines.{empty_line}
use Rattle.live_words.proofs.batch.push_empty.Given as goal

abbrev pub invariant-loop-market : goal.invariant-loop-market
invariant-loop-market l = record {
  short : All IsShortLine l.lines.items;
  emptied : l.lines.items ≡ l.initial.lines.items ++ map (empty_line l.name) (take l.market-index l.setup.markets);
}
