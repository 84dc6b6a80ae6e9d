-- The lines of a day's journal, and the texts that they make.
use Rattle.std.specs.Prelude.{◌≡◌, ℕ, Bool, ◌+◌, List, [], ◌∷◌, ◌++◌, take, drop, Ok, if◌then◌else◌, codes, nat_eq}
use Rattle.std.specs.List.{starts_with}
use Rattle.venue_words.specs.declared.config.Config.{Config}
use Rattle.venue_words.specs.declared.command.Event.{Event}
use Rattle.venue_words.specs.declared.limits.TheConstants.{MAX_CONFIG_BYTES}
use Rattle.line_reader.specs.ConfigFile.{config_file}
use Rattle.io_edge.specs.Files.{Files}
use Rattle.audit_journal.specs.declared.making.TheConstants.{CONFIG, FEED, LISTING}
use Rattle.feeds_core.specs.FeedRuns.{AreJournalsOf, listing_of}

-- the line ends a header
abbrev pub ends_header : List ℕ → Bool
ends_header line = starts_with nat_eq line (codes "BEGIN ")

-- how many lines the header has: up to the first that ends it
abbrev pub head_count : List (List ℕ) → ℕ
head_count [] = 0
head_count (line ∷ lines) = if ends_header line then 1 else 1 + head_count lines

-- the lines of the header
abbrev pub head_of : List (List ℕ) → List (List ℕ)
head_of lines = take (head_count lines) lines

-- the lines after the header
abbrev pub body_of : List (List ℕ) → List (List ℕ)
body_of lines = drop (head_count lines) lines

-- lines as a text, each with its LF
abbrev pub text_of : List (List ℕ) → List ℕ
text_of [] = []
text_of (line ∷ lines) = line ++ 10 ∷ text_of lines

-- a listing of the journals that a feed of a config asks for: each symbol's holds the feed's commands for it, once and in order
pub record IsListingOf (config_text feed listing : List ℕ) : Type 0 where
  pub config : Config
  pub already : ℕ
  pub read : config_file MAX_CONFIG_BYTES config_text ≡ Ok (config, already)
  pub journals : List (List Event)
  pub are : AreJournalsOf config (feed ∷ []) journals
  pub listed : listing ≡ listing_of config journals

-- the config, the feed and a listing of the lines of a day
abbrev pub AreFilesOf : List (List ℕ) → Files → Type 0
AreFilesOf lines files = (listing : List ℕ) × IsListingOf (text_of (head_of lines)) (text_of (body_of lines)) listing
    × (files ≡ (CONFIG.now, text_of (head_of lines)) ∷ (FEED.now, text_of (body_of lines)) ∷ (LISTING.now, listing) ∷ [])
