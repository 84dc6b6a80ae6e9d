-- What a day's listing is to its feeds.
use Rattle.std.specs.Prelude.{◌≡◌, ◌<◌, ◌⊎◌, ℕ, List, map, length, true, false, Some, Result, Ok, Err}
use Rattle.io_edge.specs.Files.{Files, file_named}
use Rattle.venue_words.specs.Conditions.{IsConfig}
use Rattle.venue_words.specs.declared.config.Config.{Config}
use Rattle.venue_words.specs.declared.command.Event.{Event}
use Rattle.venue_words.specs.declared.limits.TheConstants.{MAX_CONFIG_BYTES}
use Rattle.line_reader.specs.ConfigFile.{Answer, config_file}
use Rattle.line_work.specs.Commands.{commands}
use Rattle.listing.specs.Listing.{Part, listing}
use Rattle.listing_reader.specs.Fitting.{has_word_names}
use Rattle.feed_work.specs.Feeds.{Asked, commands_at}
use Rattle.feeds_core.specs.FeedFiles.{texts_named}
use Rattle.feeds_core.specs.FeedLists.{asked_in}
use Rattle.feeds_core.specs.FeedRuns.{AreJournalsOf, IsRefused, IsSound, IsWhole, Texts, named_texts, run_of}
use Rattle.feeds_core.specs.Working.{IsStopped}
use Rattle.feeds_core.specs.declared.feed_list.FeedList.{FeedList}
use Rattle.feeds_core.specs.declared.status.FeedsStatus.{FeedsStatus}
use Rattle.feeds_core.specs.declared.status.FeedsStatus.TheVariants.{ReadFault}
use Rattle.audit_core.specs.Audited.{AreParts, HasConfig, IsConfigFault, OfText}
use Rattle.audit_core.specs.Differing.{IsLongLine}
use Rattle.audit_core.specs.Names.{has_line_names}
use Rattle.audit_core.specs.Telling.{Lists}
use Rattle.audit_core.specs.declared.audit.AuditRefusal.{AuditRefusal}
use Rattle.audit_core.specs.declared.audit.AuditRefusal.TheVariants.{Config as BadConfig, SplitName, Listing}
use Rattle.audit_core.specs.declared.verdict.AuditFault.TheVariants.{LongLine, TooLarge}
use Rattle.audit_core.specs.declared.verdict.TheConstants.{MAX_LISTING_BYTES}
use Rattle.audit_feeds.specs.declared.auditing.FeedsRefusal.{FeedsRefusal}
use Rattle.audit_feeds.specs.declared.auditing.FeedsRefusal.TheVariants.{Feeds as BadFeeds}
use Rattle.audit_feeds.specs.FeedsText.{departures_telling}

-- one file says a config, others are feeds, and another is the listing of journals of the config, with the reports that the market's rules make of them:
-- and this holds of the config, the feeds and the journals
pub record IsDay (Holds : Config → List (List ℕ) → List (List Event) → Type 0) (files : Files) (config listing_name : List ℕ) (feeds : List (List ℕ)) : Type 0 where
  pub of : Config
  pub says : HasConfig files config of
  pub texts : List (List ℕ)
  pub found_feeds : texts_named files feeds ≡ Some texts
  pub text : List ℕ
  pub found : file_named files listing_name ≡ Some text
  pub parts : List Part
  pub each : length parts ≡ length of.symbols
  pub made : AreParts of 0 parts
  pub spelled : text ≡ listing of parts
  pub holds : Holds of texts (map (λ part. part.journal) parts)

-- each journal holds the commands of each feed for its symbol, once and in the feed's order, and nothing else
abbrev pub IsDayOfFeeds : Files → List ℕ → List ℕ → List (List ℕ) → Type 0
IsDayOfFeeds files config listing_name feeds = IsDay AreJournalsOf files config listing_name feeds

-- some journal does not
abbrev pub DepartsFromFeeds : Files → List ℕ → List ℕ → List (List ℕ) → Type 0
DepartsFromFeeds files config listing_name feeds = IsDay (λ of texts journals. AreJournalsOf of texts journals → ⊥) files config listing_name feeds

-- a config and feeds of it, all of them files, have no refused line, and each journal has room for the feeds' commands
pub record AreSoundFeeds (files : Files) (config : List ℕ) (feeds : List (List ℕ)) : Type 0 where
  pub texts : Texts
  pub found : named_texts files (record { config = config; feeds = feeds }) ≡ Some texts
  pub sound : IsWhole (config_file MAX_CONFIG_BYTES texts.config) texts.feeds

-- the answer is that the feeds were not taken
abbrev pub LacksFeeds : {T : Type 0} → Result T FeedsRefusal → Type 0
LacksFeeds result = (status : FeedsStatus) × (result ≡ Err (BadFeeds status))

-- a config whose names are words on one line, so that the words of a listing's lines can be told apart
pub record HasPlainNames (config : Config) : Type 0 where
  pub words : has_word_names config ≡ true
  pub lines : has_line_names config ≡ true

-- ---- on the way

-- one file says a config, others are feeds of it without a refused line and with commands for which each journal has room, and the lists are
-- these feeds' commands
pub record AreListsOf (files : Files) (config : List ℕ) (feeds : List (List ℕ)) (lists : List FeedList) : Type 0 where
  pub of : Config
  pub is : IsConfig of
  pub text : List ℕ
  pub found : file_named files config ≡ Some text
  pub bytes : ℕ
  pub says : config_file MAX_CONFIG_BYTES text ≡ Ok (of, bytes)
  pub texts : List (List ℕ)
  pub found_feeds : texts_named files feeds ≡ Some texts
  pub sound : IsSound (run_of of bytes texts)
  pub commands : (symbol : ℕ) → map (commands_at symbol) (asked_in lists) ≡ map (λ text. commands of text symbol) texts

-- one file says a config, another lists journals of it, and this is told of where these are not what feeds ask
pub record TellsDepartures (files : Files) (config listing_name : List ℕ) (feeds : List (List Asked)) (told : List ℕ) : Type 0 where
  pub of : Config
  pub says : HasConfig files config of
  pub text : List ℕ
  pub found : file_named files listing_name ≡ Some text
  pub lists : Lists (departures_telling feeds) of text told

-- the lists are those of the feeds, and this is told of where the journals are not what they ask
pub record TellsOfFeeds (files : Files) (config listing_name : List ℕ) (feeds : List (List ℕ)) (told : List ℕ) : Type 0 where
  pub lists : List FeedList
  pub are : AreListsOf files config feeds lists
  pub tells : TellsDepartures files config listing_name (asked_in lists) told

-- ---- why there is no verdict

-- why a config or its feeds are not taken, where all of the files were read
abbrev pub StopsFor : Answer → List (List ℕ) → FeedsStatus → Type 0
StopsFor answer feeds ReadFault = Unit {0}
StopsFor (Ok read) feeds status = IsStopped (run_of read.0 read.1 feeds) status
StopsFor (Err meant) feeds status = IsRefused meant status

-- why a listing is not audited, where the cause is in the files
abbrev pub IsAuditCause : Files → List ℕ → List ℕ → AuditRefusal → Type 0
IsAuditCause files config listing_name (BadConfig fault) = IsConfigFault files config fault
IsAuditCause files config listing_name SplitName =
    (of : Config) → HasConfig files config of → (has_word_names of ≡ false) ⊎ (has_line_names of ≡ false)
IsAuditCause files config listing_name (Listing (LongLine line)) = OfText files listing_name (λ text. IsLongLine text line)
IsAuditCause files config listing_name (Listing TooLarge) = OfText files listing_name (λ text. MAX_LISTING_BYTES < length text)
IsAuditCause files config listing_name (Listing fault) = Unit {0}
