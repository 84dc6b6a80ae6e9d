use Rattle.std.proofs.Common.{◌≡◌, ◌++◌, length}
use Rattle.std.specs.List.{All}
use Rattle.venue_words.specs.Floors.{FloorMark, SymbolView}
use Rattle.std.proofs.Common.{ℕ, List}
use Rattle.feed_work.specs.Feeds.{Asked, IsFor}
use Rattle.feed_work.specs.Working.{GrewByAll}
use Rattle.feed_work.proofs.share.work_share.Given as goal

pub record Going (before now : FloorMark) (feed : ℕ) (was is : ℕ → SymbolView) (all yielded rest : List Asked) (left : ℕ) : Type 0 where
  pub mark : now ≡ before
  pub grew : GrewByAll feed was is yielded
  pub order : all ≡ yielded ++ rest
  pub configured : All (IsFor before.setup) rest
  pub count : length rest ≡ left

abbrev pub invariant-loop-asked : goal.invariant-loop-asked
invariant-loop-asked g l =
    Going (g.F.Floor.mark l.initial.floor) (g.F.Floor.mark l.floor) l.feed (g.F.Floor.at l.initial.floor) (g.F.Floor.at l.floor)
    l.fn.share.commands.items l.yielded l.asked-iterator.rest.items l.asked-iterator.rest.len
