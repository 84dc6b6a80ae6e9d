-- The lines that are left come after those of the text.
use Rattle.std.proofs.Common.{◌≡◌, ◌++◌, drop}
use Rattle.source_feed.specs.Serving.{lines_of}
use Rattle.source_feed.proofs.lines.push_lines.Given as goal

abbrev pub invariant-loop-quote : goal.invariant-loop-quote
invariant-loop-quote l =
    l.initial.text.items ++ lines_of l.config l.quotes ≡ l.text.items ++ lines_of l.config (drop l.quote-index l.quotes)
