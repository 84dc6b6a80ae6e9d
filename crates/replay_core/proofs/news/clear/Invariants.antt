use Rattle.std.proofs.Common.{◌≡◌, ◌<◌, ℕ, length}
use Rattle.replay_core.specs.News.{row_at, AsksNone}
use Rattle.replay_core.proofs.news.clear.Given as goal

-- the members so far are asked at no symbol
abbrev pub invariant-loop-member : goal.invariant-loop-member
invariant-loop-member l = record {
  all : length l.asked ≡ length l.fn.asked;
  each : (member : ℕ) → length (row_at l.asked member) ≡ length (row_at l.fn.asked member);
  none : (member : ℕ) → member < l.member → AsksNone (row_at l.asked member);
}
