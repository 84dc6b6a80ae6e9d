-- What the quotes that are left make of the slots is what all make.
use Rattle.std.proofs.Common.{◌≡◌, ◌++◌, drop}
use Rattle.quote_flow.specs.Tables.{slots_after, passed_after}
use Rattle.quote_flow.proofs.table.take_quotes.Given as goal

abbrev pub invariant-loop-quote : goal.invariant-loop-quote
invariant-loop-quote l = record {
  slots : slots_after l.pace l.moment l.initial.slots.items l.quotes
      ≡ slots_after l.pace l.moment l.slots.items (drop l.quote-index l.quotes);
  passed : l.initial.out.items ++ passed_after l.pace l.moment l.initial.slots.items l.quotes
      ≡ l.out.items ++ passed_after l.pace l.moment l.slots.items (drop l.quote-index l.quotes);
}
