use Rattle.std.proofs.Common.{◌≡◌, ℕ, List, None, take, true}
use Rattle.std.specs.List.{All}
use Rattle.venue_words.specs.declared.config.Config.{Config}
use Rattle.feeds_core.specs.FeedLists.{ListsAll}
use Rattle.feeds_core.specs.Judging.{Judged}
use Rattle.feeds_core.proofs.refused.first_refused.Given as goal

-- no feed so far has a refused line
abbrev pub invariant-loop-place : goal.invariant-loop-place
invariant-loop-place l = record {
  judged : (config : Config) (already : ℕ) (texts : List (List ℕ)) → ListsAll config true already texts l.lists
      → Judged config already texts l.lists l.place l.taken.items;
  clear : All (λ list. list.fault ≡ None) (take l.place l.lists);
}
