use Rattle.std.proofs.Common.{◌≡◌, length}
use Rattle.replay_core.specs.News.{AreRows}
use Rattle.replay_core.proofs.news.rows.Given as goal

-- the members so far have a row each
abbrev pub invariant-loop : goal.invariant-loop
invariant-loop l = record {
  all : length l.asked.items ≡ l.counter;
  rows : AreRows l.counter l.symbols l.asked.items;
}
