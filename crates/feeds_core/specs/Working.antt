-- How the feeds of a config are worked, or why not.
use Rattle.std.specs.Prelude.{◌≡◌, ℕ, List, [], map, Some, None}
use Rattle.script_text.specs.declared.fault.LineFault.TheVariants as fault
use Rattle.line_work.specs.Commands.{commands}
use Rattle.feed_work.specs.Feeds.{commands_at}
use Rattle.listing.specs.declared.part.ListingFault.{ListingFault}
use Rattle.listing.specs.declared.part.ListingFault.TheVariants as listing
use Rattle.feeds_core.specs.FeedFaults.{feeds_fault}
use Rattle.feeds_core.specs.FeedLists.{asked_in}
use Rattle.feeds_core.specs.FeedRuns.{Run, IsSound}
use Rattle.feeds_core.specs.FeedSums.{first_full}
use Rattle.feeds_core.specs.declared.feed_list.FeedList.{FeedList}
use Rattle.feeds_core.specs.declared.status.FeedsStatus.{FeedsStatus}
use Rattle.feeds_core.specs.declared.status.FeedsStatus.TheVariants.{BadFeed, LimitFeed, Full, WriteFault, NoMemory}

-- nothing is refused, and for each symbol the lists are the feeds' commands
pub record AreSound (run : Run) (lists : List FeedList) : Type 0 where
  pub sound : IsSound run
  pub commands : (symbol : ℕ) → map (commands_at symbol) (asked_in lists) ≡ map (λ text. commands run.config text symbol) run.feeds

-- the status says why the feeds are not worked, or memory was wanted
abbrev pub IsStopped : Run → FeedsStatus → Type 0
IsStopped run (BadFeed file line cause) = feeds_fault run.config [] run.already run.feeds ≡ Some (file, fault.Bad line cause)
IsStopped run (LimitFeed file line which) = feeds_fault run.config [] run.already run.feeds ≡ Some (file, fault.Limit line which)
IsStopped run (Full symbol) =
    (feeds_fault run.config [] run.already run.feeds ≡ None) × (first_full run.config run.feeds ≡ Some symbol)
IsStopped run NoMemory = Unit {0}
IsStopped run _ = ⊥

-- why a listing was not put whole
abbrev pub listing_status : ListingFault → FeedsStatus
listing_status listing.WriteFault = WriteFault
listing_status listing.NoMemory = NoMemory
