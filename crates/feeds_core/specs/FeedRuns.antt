-- What a run over feeds comes to, by its words and the files of its shelf.
use Rattle.std.specs.Prelude.{◌≡◌, ◌⊎◌, ℕ, ◌+◌, List, [], ◌∷◌, length, map, Option, Some, None, Ok, Err, IfSome, slice_get}
use Rattle.std.specs.Io.KnownBytes.{Appends}
use Rattle.io_edge.specs.Files.{Files, HasFile, file_named}
use Rattle.io_edge.specs.Grows.{AppendsPrefix}
use Rattle.venue_words.specs.declared.limits.TheConstants.{MAX_CONFIG_BYTES}
use Rattle.venue_words.specs.declared.config.Config.{Config}
use Rattle.venue_words.specs.declared.command.Event.{Event}
use Rattle.eager_meaning.specs.Interleaving.{Interleaves}
use Rattle.member_gate.specs.Answering.{name_at}
use Rattle.script_text.specs.declared.fault.LineFault.{LineFault}
use Rattle.script_text.specs.declared.fault.LineFault.TheVariants as fault
use Rattle.venue_core.specs.Runs.{run_in}
use Rattle.line_reader.specs.ConfigFile.{Answer, config_file}
use Rattle.line_work.specs.Commands.{commands}
use Rattle.listing.specs.Listing.{Part, listing}
use Rattle.feeds_core.specs.FeedFaults.{feeds_fault}
use Rattle.feeds_core.specs.FeedFiles.{texts_named, HasAll}
use Rattle.feeds_core.specs.FeedPlan.{Named, plan_of}
use Rattle.feeds_core.specs.FeedSums.{first_full}
use Rattle.feeds_core.specs.Statuses.{refused_at}
use Rattle.feeds_core.specs.declared.status.FeedsStatus.{FeedsStatus}
use Rattle.feeds_core.specs.declared.status.FeedsStatus.TheVariants.{Done, BadWords, BadFeed, LimitFeed, Full, ReadFault, WriteFault, NoMemory}

-- ---- the files

-- the texts of a run's files
pub record Texts : Type 0 where
  pub config : List ℕ
  pub feeds : List (List ℕ)

abbrev pub texts_of : List ℕ → List (List ℕ) → Texts
texts_of config feeds = record { config = config; feeds = feeds }

abbrev pub with_feeds : Option (List ℕ) → Option (List (List ℕ)) → Option Texts
with_feeds (Some config) (Some feeds) = Some (texts_of config feeds)
with_feeds _ _ = None

-- those of the files that are named, where all of them are there
abbrev pub named_texts : Files → Named → Option Texts
named_texts files named = with_feeds (file_named files named.config) (texts_named files named.feeds)

-- those that the words name, where the shelf tells its files and all of them are there
abbrev pub texts_told : Option Files → Option Named → Option Texts
texts_told None named = None
texts_told (Some files) None = None
texts_told (Some files) (Some named) = named_texts files named

-- the shelf tells its files, and lacks one that the words name
abbrev pub LacksFile : Option Files → Option Named → Type 0
LacksFile None named = ⊥
LacksFile (Some files) None = ⊥
LacksFile (Some files) (Some named) = named_texts files named ≡ None

-- all of these files are there, where the shelf tells them
abbrev pub HasNamed : Option Files → Named → Type 0
HasNamed told named = HasFile told named.config × HasAll told named.feeds

-- all files that the words name
abbrev pub HasFiles : Option Files → Option Named → Type 0
HasFiles told None = ⊥
HasFiles told (Some named) = HasNamed told named

-- ---- the venue

-- a journal of a symbol, and what the market's rules make of it
abbrev pub part_of : Config → ℕ → List Event → Part
part_of config symbol journal = record { journal = journal; reports = (run_in config symbol journal).reports }

abbrev pub parts_from : Config → ℕ → List (List Event) → List Part
parts_from config symbol [] = []
parts_from config symbol (journal ∷ journals) = part_of config symbol journal ∷ parts_from config (symbol + 1) journals

-- the listing of journals, one for each symbol of the config: each event, with the reports that the market's rules make of it
abbrev pub listing_of : Config → List (List Event) → List ℕ
listing_of config journals = listing config (parts_from config 0 journals)

-- each symbol's journal holds the commands of each feed for the symbol, once and in the feed's order, and nothing else
pub record AreJournalsOf (config : Config) (feeds : List (List ℕ)) (journals : List (List Event)) : Type 0 where
  pub each : length journals ≡ length config.symbols
  pub interleaved : (symbol : ℕ) (journal : List Event) → slice_get journals symbol ≡ Some journal
      → Interleaves journal (map (λ text. commands config text symbol) feeds)

-- what the feeds of a config came to: its config, the bytes of the config's file, and the feeds' texts
pub record Run : Type 0 where
  pub config : Config
  pub already : ℕ
  pub feeds : List (List ℕ)

abbrev pub run_of : Config → ℕ → List (List ℕ) → Run
run_of config already feeds = record { config = config; already = already; feeds = feeds }

-- no line is refused, and no symbol has too many commands
pub record IsSound (run : Run) : Type 0 where
  pub clear : feeds_fault run.config [] run.already run.feeds ≡ None
  pub room : first_full run.config run.feeds ≡ None

-- the listing of some such journals was put, or a beginning of it
pub record PutsAll (run : Run) (old new : Option (List ℕ)) : Type 0 where
  pub sound : IsSound run
  pub journals : List (List Event)
  pub are : AreJournalsOf run.config run.feeds journals
  pub grew : Appends old new (listing_of run.config journals)

pub record PutsPart (run : Run) (old new : Option (List ℕ)) : Type 0 where
  pub sound : IsSound run
  pub journals : List (List Event)
  pub are : AreJournalsOf run.config run.feeds journals
  pub grew : AppendsPrefix old new (listing_of run.config journals)

-- that line of that file is the first one that is refused, and nothing was put
pub record StopsAt (run : Run) (file : ℕ) (fault : LineFault) (old new : Option (List ℕ)) : Type 0 where
  pub first : feeds_fault run.config [] run.already run.feeds ≡ Some (file, fault)
  pub same : new ≡ old

-- no line is refused, this symbol, whose name is that, is the first that has too many commands, and nothing was put
pub record IsFull (run : Run) (symbol : ℕ) (name : List ℕ) (old new : Option (List ℕ)) : Type 0 where
  pub clear : feeds_fault run.config [] run.already run.feeds ≡ None
  pub first : first_full run.config run.feeds ≡ Some symbol
  pub name_is : name ≡ name_at run.config.symbols symbol
  pub same : new ≡ old

-- ---- the status

-- what the feeds of a config say of the status, of the name of its symbol, and of what was put
abbrev pub FeedsOutcome : Run → Option (List ℕ) → Option (List ℕ) → List ℕ → FeedsStatus → Type 0
FeedsOutcome run old new name Done = PutsAll run old new
FeedsOutcome run old new name (BadFeed file line cause) = StopsAt run file (fault.Bad line cause) old new
FeedsOutcome run old new name (LimitFeed file line which) = StopsAt run file (fault.Limit line which) old new
FeedsOutcome run old new name (Full symbol) = IsFull run symbol name old new
FeedsOutcome run old new name ReadFault = new ≡ old
FeedsOutcome run old new name WriteFault = PutsPart run old new
FeedsOutcome run old new name NoMemory = (new ≡ old) ⊎ PutsPart run old new
FeedsOutcome run old new name BadWords = ⊥

-- a status of a config that is refused so, unless reading it or its feeds failed, or memory was wanted
abbrev pub IsRefused : LineFault → FeedsStatus → Type 0
IsRefused meant ReadFault = Unit {0}
IsRefused meant NoMemory = Unit {0}
IsRefused meant status = status ≡ refused_at 0 meant

-- what the config and the feeds say
abbrev pub Outcome : Answer → List (List ℕ) → Option (List ℕ) → Option (List ℕ) → List ℕ → FeedsStatus → Type 0
Outcome (Ok read) feeds old new name status = FeedsOutcome (run_of read.0 read.1 feeds) old new name status
Outcome (Err meant) feeds old new name status = IsRefused meant status × (new ≡ old)

-- a config and its feeds have no refused line, and no symbol has too many commands
abbrev pub IsWhole : Answer → List (List ℕ) → Type 0
IsWhole (Ok read) feeds = IsSound (run_of read.0 read.1 feeds)
IsWhole (Err meant) feeds = ⊥

-- how a run ended: the status, the name of its symbol, and what was put
pub record Ends (told : Option Files) (words : List (List ℕ)) (old new : Option (List ℕ)) (name : List ℕ) (status : FeedsStatus) : Type 0 where
  pub files : IfSome (texts_told told (plan_of words)) (λ texts.
      Outcome (config_file MAX_CONFIG_BYTES texts.config) texts.feeds old new name status)
  -- words of another form, and a file that is not there: nothing is put
  pub bad_words : status ≡ BadWords → plan_of words ≡ None
  pub other_words : plan_of words ≡ None → ((status ≡ BadWords) ⊎ (status ≡ NoMemory)) × (new ≡ old)
  pub missing : LacksFile told (plan_of words) → ((status ≡ ReadFault) ⊎ (status ≡ NoMemory)) × (new ≡ old)
