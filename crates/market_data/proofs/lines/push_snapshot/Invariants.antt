-- The lines of the quotes that are left stand behind those of the text.
use Rattle.std.proofs.Common.{◌≡◌, ◌++◌, drop}
use Rattle.market_data.specs.Lines.{lines_from, last_moment, timed}
use Rattle.market_data.proofs.LineSteps.{timed_all}
use Rattle.market_data.proofs.lines.push_snapshot.Given as goal

abbrev pub invariant-loop-quote : goal.invariant-loop-quote
invariant-loop-quote l = record {
  lines : l.initial.text.items ++ lines_from l.config l.initial.last (timed l.moment l.snapshot)
      ≡ l.text.items ++ lines_from l.config l.last (timed_all l.moment l.snapshot.symbol (drop l.quote-index l.snapshot.quotes));
  last : last_moment l.initial.last (timed l.moment l.snapshot) ≡ last_moment l.last (timed_all l.moment l.snapshot.symbol (drop l.quote-index l.snapshot.quotes));
}
