-- A feed in the middle of its lines.
use Rattle.std.specs.Prelude.{◌≡◌, ℕ, ◌||◌, Bool, List, ◌++◌}
use Rattle.std.specs.List.{list_any}
use Rattle.venue_words.specs.declared.config.Config.{Config}
use Rattle.script_text.specs.Body.{read_of}
use Rattle.script_text.specs.Lines.{cut}
use Rattle.line_work.specs.Commands.{commands, commands_for, submitted_by}
use Rattle.line_work.specs.FeedState.{FeedState}
use Rattle.line_work.specs.Standing.{WorkerView, StandsFor}
use Rattle.feeds_core.specs.FeedLines.{is_member, named_in, names, lines_fault}
use Rattle.feeds_core.specs.FeedTexts.{kept_fault, end_fault}
use Rattle.feeds_core.specs.Listings.{timed_at}
use Rattle.feeds_core.specs.Naming.{has_name, refused_by}
use Rattle.feeds_core.specs.declared.feed_text.FeedText.{FeedText}
use Rattle.feeds_core.specs.declared.listing_floor.Listed.{Listed}
use Rattle.feeds_core.specs.declared.naming.Naming.{Naming}

-- So many lines were worked, which end at that number of bytes, and these bytes are left: what was listed and who was named so
-- far, with what the rest comes to, is what the whole comes to.
pub record InFeed (config : Config) (kept : FeedText) (n bytes : ℕ) (rest : List ℕ) (worker : WorkerView) (named : List Naming) (listed : List Listed) : Type 0 where
  pub state : FeedState
  pub stands : StandsFor worker state
  pub config_is : state.config ≡ config
  pub commands : (symbol : ℕ) → timed_at symbol listed ++ commands_for symbol (submitted_by state (cut rest).lines) ≡ commands config kept.lines.items symbol
  pub refused : (taken : ℕ → Bool) → kept_fault config taken kept
      ≡ refused_by taken named (lines_fault config taken n bytes (cut rest).lines (end_fault kept.end))
  pub names_are : (member : ℕ)
      → (has_name named member || list_any (λ line. is_member member (named_in (read_of config line))) (cut rest).lines)
      ≡ names config kept.lines.items member
