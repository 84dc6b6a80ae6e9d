-- The files that the words of a run name.
use Rattle.std.specs.Prelude.{ℕ, ◌&&◌, nat_le, if◌then◌else◌, List, [], ◌∷◌, length, map, Option, Some, None, option_and_then}
use Rattle.venue_words.specs.declared.limits.TheConstants.{MAX_FEEDS}
use Rattle.program_words.specs.Words.{remaining}
use Rattle.feeds_core.specs.declared.plan.FeedPlan as declared

-- the names of a config and of its feeds
pub record Named : Type 0 where
  pub config : List ℕ
  pub feeds : List (List ℕ)

-- a config, and behind it at least one feed and no more than there may be
abbrev pub form_of : List (List ℕ) → Option Named
form_of [] = None
form_of (config ∷ feeds) =
    if nat_le 1 (length feeds) && nat_le (length feeds) MAX_FEEDS then Some (record { config = config; feeds = feeds }) else None

-- what the words of a command line name
abbrev pub plan_of : List (List ℕ) → Option Named
plan_of words = option_and_then form_of (remaining words)

abbrev pub plan_in : declared.FeedPlan → Named
plan_in plan = record { config = plan.config.now; feeds = map (λ feed. feed.now) plan.feeds.now }
