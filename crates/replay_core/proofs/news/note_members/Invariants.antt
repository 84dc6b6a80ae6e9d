use Rattle.std.proofs.Common.{◌≡◌, ◌≢◌, ◌⊎◌, ◌<◌, ◌==◌, ℕ, [], true, false, length, take}
use Rattle.std.specs.List.{filter}
use Rattle.replay_core.specs.News.{row_at, asks}
use Rattle.replay_core.proofs.news.note_members.Given as goal

-- the symbol is noted for the members of the reports so far, and so is what was
abbrev pub invariant-loop-report : goal.invariant-loop-report
invariant-loop-report l = record {
  each : (member : ℕ) → length (row_at l.asked member) ≡ length (row_at l.fn.asked member);
  kept : (member at : ℕ) → asks l.fn.asked member at ≡ true → asks l.asked member at ≡ true;
  none : (member : ℕ) → l.symbol < length (row_at l.fn.asked member) → asks l.asked member l.symbol ≡ false
      → filter (λ report. report.member == member) (take l.report-index l.reports) ≡ [];
  only : (member at : ℕ) → asks l.asked member at ≡ true
      → (asks l.fn.asked member at ≡ true)
      ⊎ ((at ≡ l.symbol) × (filter (λ report. report.member == member) (take l.report-index l.reports) ≢ []));
}
