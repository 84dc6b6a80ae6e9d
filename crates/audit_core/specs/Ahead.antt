-- What must still come so that a listing is whole.
use Rattle.std.specs.Prelude.{◌≡◌, ◌≤◌, ℕ, ◌+◌, ◌⊎◌, nat_lt, Bool, true, false, List, [], ◌∷◌, ◌++◌, length, drop, Option, Some, None, IfSome, IsSome, ⊤}
use Rattle.std.specs.List.{AllByRecursion, flat_map}
use Rattle.venue_words.specs.declared.config.Config.{Config}
use Rattle.venue_words.specs.declared.command.Event.{Event}
use Rattle.venue_words.specs.declared.report.Report.{Report}
use Rattle.eager_meaning.specs.Step.{IsNumbered}
use Rattle.line_reader.specs.Reading.{Reading}
use Rattle.listing.specs.Lines.{ended}
use Rattle.listing.specs.Listing.{Part, listing_from, event_text, reports_for}
use Rattle.listing_reader.specs.Fitting.{fits_event, has_word_names}
use Rattle.venue_words.specs.Conditions.{IsConfig}
use Rattle.audit_core.specs.declared.part.OpenPart.{OpenPart}
use Rattle.audit_core.specs.declared.reading.Auditor.{Auditor}
use Rattle.audit_core.specs.declared.reading.Seen.{Seen}
use Rattle.audit_core.specs.declared.reading.Seen.TheVariants.{Differs, Same}
use Rattle.audit_core.specs.Names.{has_line_names}
use Rattle.audit_core.specs.Audited.{limit_at, run_of, AreParts}
use Rattle.audit_core.specs.Differing.{AreLines, lines_text}
use Rattle.audit_core.specs.Progress.{Auditing, IsRead, HasRead, OpenIf, behind_part, end_text, journal_in, report_lines}
use Rattle.audit_core.specs.Telling.{Begins, Lists, Output, Says, Telling}

-- the counts of the symbol's line are those of the journal that goes on with these events
pub record CountsAre (config : Config) (symbol : ℕ) (part : OpenPart) (later : List Event) : Type 0 where
  pub numbered : IsNumbered (part.book.journal ++ later)
  pub few : length (part.book.journal ++ later) ≤ limit_at config symbol
  pub events : part.counts.events ≡ length (part.book.journal ++ later)
  pub reports : part.counts.reports ≡ length (run_of config symbol (part.book.journal ++ later)).reports

-- the lines of events, each with its reports among these
abbrev pub event_lines : Config → ℕ → List Event → List Report → List ℕ
event_lines config symbol events reports =
    flat_map (λ event. event_text config symbol event (reports_for event reports)) events

-- the text ends the part that is read, and goes on with the parts of all later symbols
pub record Completes (config : Config) (symbol : ℕ) (part : OpenPart) (text : List ℕ) : Type 0 where
  pub later : List Event
  pub parts : List Part
  pub counts : CountsAre config symbol part later
  pub fits : AllByRecursion (λ event. fits_event config event ≡ true) later
  pub each : symbol + 1 + length parts ≡ length config.symbols
  pub made : AreParts config (symbol + 1) parts
  pub spelled : text ≡ report_lines config symbol (drop part.told part.book.reports)
      ++ (event_lines config symbol later (run_of config symbol (part.book.journal ++ later)).reports
      ++ listing_from config (symbol + 1) parts)

-- the text has the parts of the symbols from one on
pub record CompletesFrom (config : Config) (symbol : ℕ) (text : List ℕ) : Type 0 where
  pub parts : List Part
  pub each : symbol + length parts ≡ length config.symbols
  pub made : AreParts config symbol parts
  pub spelled : text ≡ listing_from config symbol parts

abbrev pub GoesOn : Config → ℕ → Option OpenPart → List ℕ → Type 0
GoesOn config symbol None text = CompletesFrom config symbol text
GoesOn config symbol (Some part) text = Completes config symbol part text × (IsRead part → ⊥)

-- with these bytes what was read becomes a whole listing
abbrev pub Awaits : Auditing → List ℕ → Type 0
Awaits auditing text = GoesOn auditing.config auditing.symbol auditing.part text

-- ---- the auditor

-- how far it is in the listing of a config
abbrev pub at : Config → Auditor → Auditing
at config auditor = record { config = config; symbol = auditor.symbol; part = auditor.part }

-- it stands at a symbol of a config whose names can be told apart
pub record IsAt (config : Config) (auditor : Auditor) : Type 0 where
  pub is : IsConfig config
  pub words : has_word_names config ≡ true
  pub lines : has_line_names config ≡ true
  pub within : auditor.symbol ≤ length config.symbols
  pub opened : OpenIf config auditor.symbol auditor.part

-- ---- lines

-- a line was taken, and this was told: what was read goes on with it, and what was awaited is awaited behind it
pub record Takes (telling : Telling) (old new : Auditing) (line told : List ℕ) : Type 0 where
  pub read : (before said : List ℕ) → HasRead telling old before said → HasRead telling new (before ++ ended line) (said ++ told)
  pub awaited : (more : List ℕ) → Awaits old (ended line ++ more) → Awaits new more

-- a line was refused: with it no listing goes on. What is expected begins all that is awaited
pub record Refuses (old : Auditing) (line : List ℕ) (expected : Option (List ℕ)) : Type 0 where
  pub none : (more : List ℕ) → Awaits old (ended line ++ more) → ⊥
  pub told : IfSome expected (λ right. (more : List ℕ) → Awaits old more → (behind : List ℕ) × (more ≡ ended right ++ behind))

-- with this part open
abbrev pub with_part : Auditing → OpenPart → Auditing
with_part auditing part = record { config = auditing.config; symbol = auditing.symbol; part = Some part }

-- with these lines the text that was read begins a listing, and this is to be told of them
pub record Reaches (telling : Telling) (old : Auditing) (lines : List (List ℕ)) (told : List ℕ) : Type 0 where
  pub new : Auditing
  pub config : new.config ≡ old.config
  pub opened : OpenIf new.config new.symbol new.part
  pub read : (before said : List ℕ) → HasRead telling old before said → HasRead telling new (before ++ lines_text lines) (said ++ told)

-- telling stopped at a line, or before it was taken
pub record StopsIn (telling : Telling) (old : Auditing) (line : List ℕ) (from to : Output) : Type 0 where
  pub lines : List (List ℕ)
  pub only : (lines ≡ []) ⊎ (lines ≡ line ∷ [])
  pub told : List ℕ
  pub reached : Reaches telling old lines told
  pub begun : Begins from to told

-- ---- answers

-- a watch heard of what the auditor read
pub record IsHeard (Heard : Config → ℕ → List Event → Type 0) (config : Config) (auditor : Auditor) : Type 0 where
  pub at : IsAt config auditor
  pub heard : Heard config auditor.symbol (journal_in auditor.part)

-- the auditor stands behind a line of a part, and the part's end was said where it is read
pub record GoesBehind (telling : Telling) (Heard : Config → ℕ → List Event → Type 0) (config : Config) (symbol : ℕ) (part : OpenPart)
    (auditor : Auditor) (from to : Output) : Type 0 where
  pub stands : IsHeard Heard config auditor
  pub behind : at config auditor ≡ behind_part config symbol part
  pub said : Says from to (end_text telling config symbol part)

-- a line was taken, and what is to be told of it was said
pub record Passes (telling : Telling) (Heard : Config → ℕ → List Event → Type 0) (config : Config) (old : Auditing) (auditor : Auditor)
    (line : List ℕ) (from to : Output) : Type 0 where
  pub stands : IsHeard Heard config auditor
  pub told : List ℕ
  pub takes : Takes telling old (at config auditor) line told
  pub said : Says from to told

-- what a line is seen to be
abbrev pub Sees : Telling → (Config → ℕ → List Event → Type 0) → Config → Auditing → Auditor → List ℕ → Output → Output → Seen → Type 0
Sees telling Heard config old auditor line from to Same = Passes telling Heard config old auditor line from to
Sees telling Heard config old auditor line from to (Differs expected) = Refuses old line expected × (to ≡ from)

-- whether a report of the event that was read last is still to come, so that the next line is known
abbrev pub has_due : Option OpenPart → Bool
has_due None = false
has_due (Some part) = nat_lt part.told (length part.book.reports)

-- where the line is seen to differ, it is told what should stand there
abbrev pub SaysExpected : Seen → Type 0
SaysExpected Same = ⊤
SaysExpected (Differs expected) = IsSome expected

-- ---- files

-- lines were taken, and this was told
pub record TakesLines (telling : Telling) (old new : Auditing) (lines : List (List ℕ)) (told : List ℕ) : Type 0 where
  pub clear : AreLines lines
  pub read : (before said : List ℕ) → HasRead telling old before said → HasRead telling new (before ++ lines_text lines) (said ++ told)
  pub awaited : (more : List ℕ) → Awaits old (lines_text lines ++ more) → Awaits new more

-- what is ahead begins with these lines
abbrev pub IsBehind : List (List ℕ) → Option (List ℕ) → Type 0
IsBehind lines before = (text : List ℕ) → before ≡ Some text → (more : List ℕ) × (text ≡ lines_text lines ++ more)

-- the reader handed out lines, which were taken and told of, and what is ahead is what stood behind them
pub record ReadsOn (telling : Telling) (old new : Auditing) (first last : Reading) (before after : Option (List ℕ)) (from to : Output) : Type 0 where
  pub lines : List (List ℕ)
  pub told : List ℕ
  pub taken : TakesLines telling old new lines told
  pub count : last.lines ≡ first.lines + length lines
  pub bytes : last.bytes ≡ first.bytes + length (lines_text lines)
  pub rest : (text : List ℕ) → before ≡ Some text → (more : List ℕ) × (text ≡ lines_text lines ++ more) × (after ≡ Some more)
  pub said : Says from to told

-- what is ahead ends a listing, and all is told
pub record EndsListing (telling : Telling) (old : Auditing) (before : Option (List ℕ)) (from to : Output) : Type 0 where
  pub told : List ℕ
  pub said : Says from to told
  pub whole : (read says text : List ℕ) → HasRead telling old read says → before ≡ Some text → Lists telling old.config (read ++ text) (says ++ told)

-- the lines before the one of this number, counted from those read, are told of
pub record TellsBefore (telling : Telling) (old : Auditing) (read : ℕ) (before : Option (List ℕ)) (line : ℕ) (from to : Output) : Type 0 where
  pub lines : List (List ℕ)
  pub told : List ℕ
  pub place : line ≡ read + length lines + 1
  pub clear : AreLines lines
  pub reached : Reaches telling old lines told
  pub rest : IsBehind lines before
  pub said : Says from to told

-- a beginning of what lines tell was told
pub record Stops (telling : Telling) (old : Auditing) (before : Option (List ℕ)) (from to : Output) : Type 0 where
  pub lines : List (List ℕ)
  pub told : List ℕ
  pub clear : AreLines lines
  pub reached : Reaches telling old lines told
  pub rest : IsBehind lines before
  pub begun : Begins from to told
