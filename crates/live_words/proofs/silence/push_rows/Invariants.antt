use Rattle.std.proofs.Common.{◌≡◌, ◌≤◌, ◌<◌, ◌-◌, ℕ, true, length, All}
use Rattle.day_journal.specs.Log.{IsShortLine}
use Rattle.live_words.specs.Markets.{stands}
use Rattle.live_words.specs.Silence.{IsEmptied, AreKept}
use Rattle.live_words.proofs.silence.push_rows.Given as goal

abbrev pub invariant-loop-symbol : goal.invariant-loop-symbol
invariant-loop-symbol l = record {
  short : All IsShortLine l.lines.items;
  within : l.symbol ≤ length l.rows;
  emptied : (s : ℕ) → s < l.symbol → stands l.rows s ≡ true → IsEmptied l.setup l.market s l.lines.items;
  kept : AreKept l.initial.lines.items l.lines.items;
}

abbrev pub decreases-loop-symbol : goal.decreases-loop-symbol
decreases-loop-symbol l = length l.rows - l.symbol
