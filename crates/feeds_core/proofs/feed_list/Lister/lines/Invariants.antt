use Rattle.std.proofs.Common.{◌≡◌, ◌+◌, ◌≤◌, length}
use Rattle.feeds_core.specs.Listings.{listing_mark}
use Rattle.feeds_core.specs.Passing.{InFeed}
use Rattle.feeds_core.proofs.feed_list.Lister.lines.Given as goal

-- the lines so far were worked, and the rest is left
abbrev pub invariant-loop-at : goal.invariant-loop-at
invariant-loop-at g l = record {
  inside : InFeed l.initial.self.worker.config l.text l.place.number l.place.bytes l.rest l.self.worker l.self.named.items l.self.floor.listed;
  config : l.self.worker.config ≡ l.initial.self.worker.config;
  mark : listing_mark l.self.floor ≡ listing_mark l.initial.self.floor;
  count : l.place.number + length l.rest ≤ length l.text.lines.items;
  bytes : l.place.bytes + length l.rest ≡ l.text.already + length l.text.lines.items;
}

abbrev pub decreases-loop-at : goal.decreases-loop-at
decreases-loop-at g l = length l.rest
