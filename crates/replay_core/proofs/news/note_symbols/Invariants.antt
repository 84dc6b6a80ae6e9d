use Rattle.std.proofs.Common.{◌≡◌, ◌⊎◌, ◌<◌, ◌≤◌, ℕ, [], true, false, length, slice_index}
use Rattle.venue_words.specs.Journals.{reports_of}
use Rattle.replay_core.specs.News.{row_at, asks, HasNews}
use Rattle.replay_core.proofs.news.note_symbols.Given as goal

-- the symbols so far were looked at, and the fronts of the others stand
abbrev pub invariant-loop-symbol : goal.invariant-loop-symbol
invariant-loop-symbol g l = record {
  all : length l.fronts ≡ length l.fn.fronts;
  moved : (symbol : ℕ) → symbol < l.symbol → slice_index l.fronts symbol ≡ length (g.F.Floor.at l.floor symbol).reports;
  stand : (symbol : ℕ) → l.symbol ≤ symbol → slice_index l.fronts symbol ≡ slice_index l.fn.fronts symbol;
  each : (member : ℕ) → length (row_at l.asked member) ≡ length (row_at l.fn.asked member);
  kept : (member symbol : ℕ) → asks l.fn.asked member symbol ≡ true → asks l.asked member symbol ≡ true;
  none : (member symbol : ℕ) → symbol < length (row_at l.fn.asked member) → symbol < l.symbol → asks l.asked member symbol ≡ false
      → reports_of member (slice_index l.fn.fronts symbol) (g.F.Floor.at l.floor symbol).reports ≡ [];
  only : (member symbol : ℕ) → asks l.asked member symbol ≡ true
      → (asks l.fn.asked member symbol ≡ true) ⊎ HasNews g.F.Floor.at l.floor l.symbol l.fn.fronts member symbol;
}
