-- The entries so far have no fault, and what they say was added.
use Rattle.std.proofs.Common.{◌≡◌, ◌++◌, drop}
use Rattle.market_data.specs.Entries.{entries_of, used_quotes}
use Rattle.market_data.specs.Faults.{entries_fault}
use Rattle.market_data.proofs.snapshots.read_entries.Given as goal

abbrev pub invariant-loop-at : goal.invariant-loop-at
invariant-loop-at l = record {
  fault : entries_fault l.markets (entries_of l.fields) ≡ entries_fault l.markets (entries_of (drop l.at l.fields));
  quotes : used_quotes l.markets (entries_of l.fields) ≡ l.quotes.items ++ used_quotes l.markets (entries_of (drop l.at l.fields));
}
