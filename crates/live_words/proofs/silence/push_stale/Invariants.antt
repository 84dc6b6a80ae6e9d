use Rattle.std.proofs.Common.{◌≡◌, ◌≤◌, ◌<◌, ◌-◌, ℕ, true, length, Some, All}
use Rattle.std.specs.Prelude.{slice_get}
use Rattle.day_journal.specs.Log.{IsShortLine}
use Rattle.live_words.specs.declared.markets.Market.{Market}
use Rattle.live_words.specs.Markets.{is_quiet}
use Rattle.live_words.specs.Silence.{AreRowsEmptied, AreKept}
use Rattle.live_words.proofs.silence.push_stale.Given as goal

abbrev pub invariant-loop-market : goal.invariant-loop-market
invariant-loop-market l = record {
  short : All IsShortLine l.lines.items;
  within : l.market ≤ length l.markets;
  emptied : (k : ℕ) (m : Market) → k < l.market → slice_get l.markets k ≡ Some m → is_quiet m.heard l.now l.limit ≡ true → AreRowsEmptied l.setup k m.rows.items l.lines.items;
  kept : AreKept l.initial.lines.items l.lines.items;
}

abbrev pub decreases-loop-market : goal.decreases-loop-market
decreases-loop-market l = length l.markets - l.market
