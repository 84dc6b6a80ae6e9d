-- The quotes that are left come after those of the list.
use Rattle.std.proofs.Common.{◌≡◌, ◌++◌, drop}
use Rattle.source_session.specs.Quotes.{quotes_by}
use Rattle.source_session.proofs.quotes.push_quotes.Given as goal

abbrev pub invariant-loop-command : goal.invariant-loop-command
invariant-loop-command l =
    l.initial.quotes.items ++ quotes_by l.snapshot.symbol l.snapshot.quotes
    ≡ l.quotes.items ++ quotes_by l.snapshot.symbol (drop l.command-index l.snapshot.quotes)
