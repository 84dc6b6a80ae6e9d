-- What the list of a feed stands for.
use Rattle.std.specs.Prelude.{◌≡◌, ℕ, ◌+◌, ◌<◌, Bool, true, false, List, [], ◌∷◌, length, Option, None, is_none, map, slice_index}
use Rattle.std.specs.List.{All}
use Rattle.venue_words.specs.declared.config.Config.{Config}
use Rattle.venue_words.specs.Floors.{setup_of}
use Rattle.eager_meaning.specs.Interleaving.{Timed}
use Rattle.script_text.specs.declared.fault.LineFault.{LineFault}
use Rattle.line_work.specs.Commands.{commands}
use Rattle.feed_work.specs.Feeds.{Asked, IsFor, commands_at}
use Rattle.feeds_core.specs.FeedLines.{names, feed_fault}
use Rattle.feeds_core.specs.FeedTexts.{kept_fault}
use Rattle.feeds_core.specs.Naming.{has_name, refused_by}
use Rattle.feeds_core.specs.declared.feed_list.FeedList.{FeedList}
use Rattle.feeds_core.specs.declared.feed_text.FeedText.{FeedText}
use Rattle.feeds_core.specs.declared.feed_text.FeedEnd.TheVariants.{Whole}
use Rattle.feeds_core.specs.declared.naming.Naming.{Naming}

-- what the lines come to that are kept of a feed's file: whichever members are taken, the first refused line is known; and where
-- no line is refused on its own account, just those members are named, and just these commands are there for each symbol, in
-- their order
pub record ComesTo (config : Config) (kept : FeedText) (named : List Naming) (fault : Option LineFault) (given : ℕ → List Timed) : Type 0 where
  pub refused : (taken : ℕ → Bool) → refused_by taken named fault ≡ kept_fault config taken kept
  pub whole : fault ≡ None → kept.end ≡ Whole
  pub names : fault ≡ None → (member : ℕ) → has_name named member ≡ names config kept.lines.items member
  pub commands : fault ≡ None → (symbol : ℕ) → given symbol ≡ commands config kept.lines.items symbol

abbrev pub ListsKept : Config → FeedText → FeedList → Type 0
ListsKept config kept list = ComesTo config kept list.named.items list.fault (λ symbol. commands_at symbol list.commands.items)

-- the same of the whole file, with so many bytes of files before it
pub record ListsFeed (config : Config) (already : ℕ) (text : List ℕ) (list : FeedList) : Type 0 where
  pub refused : (taken : ℕ → Bool) → refused_by taken list.named.items list.fault ≡ feed_fault config taken already text
  pub names : list.fault ≡ None → (member : ℕ) → has_name list.named.items member ≡ names config text member
  pub commands : list.fault ≡ None → (symbol : ℕ) → commands_at symbol list.commands.items ≡ commands config text symbol

-- it is counted how many commands there are for each symbol, and all of them are for configured things
pub record IsCounted (config : Config) (list : FeedList) : Type 0 where
  pub each : length list.counts.items ≡ length config.symbols
  pub counts : (symbol : ℕ) → symbol < length config.symbols
      → slice_index list.counts.items symbol ≡ length (commands_at symbol list.commands.items)
  pub asked : All (IsFor (setup_of config)) list.commands.items

-- the lists of feeds one behind the other; behind a feed that is refused on its own account nothing is told
abbrev pub ListsAll : Config → Bool → ℕ → List (List ℕ) → List FeedList → Type 0
ListsAll config false already texts lists = length texts ≡ length lists
ListsAll config true already [] [] = Unit {0}
ListsAll config true already [] (list ∷ lists) = ⊥
ListsAll config true already (text ∷ texts) [] = ⊥
ListsAll config true already (text ∷ texts) (list ∷ lists) =
    ListsFeed config already text list × ListsAll config (is_none list.fault) (already + length text) texts lists

-- the commands of all feeds
abbrev pub asked_in : List FeedList → List (List Asked)
asked_in lists = map (λ list. list.commands.items) lists
