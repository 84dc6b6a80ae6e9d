-- How the first refused line is found among the lists of feeds.
use Rattle.std.specs.Prelude.{◌≡◌, ℕ, ◌==◌, Bool, true, List, [], length, drop}
use Rattle.std.specs.List.{list_any}
use Rattle.venue_words.specs.declared.config.Config.{Config}
use Rattle.script_text.specs.declared.fault.LineFault.{LineFault}
use Rattle.feeds_core.specs.FeedFaults.{feeds_fault}
use Rattle.feeds_core.specs.FeedLines.{name_one}
use Rattle.feeds_core.specs.FeedLists.{ListsAll}
use Rattle.feeds_core.specs.declared.feed_list.FeedList.{FeedList}
use Rattle.feeds_core.specs.declared.refused.RefusedLine.{RefusedLine}

abbrev pub refused_line : RefusedLine → ℕ × LineFault
refused_line line = (line.file, line.fault)

abbrev pub is_among : List ℕ → ℕ → Bool
is_among members member = list_any (λ one. one == member) members

-- so many feeds have no refused line, and these members are named in them: what is left decides
pub record Judged (config : Config) (already : ℕ) (texts : List (List ℕ)) (lists : List FeedList) (count : ℕ) (taken : List ℕ) : Type 0 where
  pub others : List (List ℕ)
  pub rest : List (List ℕ)
  pub bytes : ℕ
  pub count_is : length others ≡ count
  pub same : feeds_fault config [] already texts ≡ feeds_fault config others bytes rest
  pub taken_is : (member : ℕ) → is_among taken member ≡ name_one config others member
  pub left : ListsAll config true bytes rest (drop count lists)
