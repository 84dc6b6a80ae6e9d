-- With the feeds that are still to come the lines are those of all feeds.
use Rattle.std.proofs.Common.{◌≡◌, ◌+◌, ◌++◌, length}
use Rattle.feeds_core.specs.FeedLists.{asked_in}
use Rattle.audit_feeds.specs.FeedsText.{departures_from}
use Rattle.audit_feeds.proofs.text.push_feeds.Given as goal

abbrev pub invariant-loop-rest : goal.invariant-loop-rest
invariant-loop-rest l = record {
  text : l.out.items ++ departures_from l.name l.symbol l.journal (l.feed + 1) (asked_in l.rest)
      ≡ l.initial.out.items ++ departures_from l.name l.symbol l.journal 1 (asked_in l.lists);
  count : l.feed + length l.rest ≡ length l.lists;
}

abbrev pub decreases-loop-rest : goal.decreases-loop-rest
decreases-loop-rest l = length l.rest
