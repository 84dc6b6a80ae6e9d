-- How what a player keeps stands for a body in the middle.
use Rattle.std.specs.Prelude.{◌≡◌, ℕ, ◌<◌, ◌≤◌, List, length, Option, None}
use Rattle.std.specs.List.{AllZip}
use Rattle.venue_words.specs.declared.config.Config.{Config}
use Rattle.venue_words.specs.declared.command.Event.{Event}
use Rattle.venue_words.specs.declared.report.Report.{Report}
use Rattle.venue_words.specs.Floors.{SymbolView}
use Rattle.venue_words.specs.Journals.{reports_of}
use Rattle.session_core.specs.Machine.{IsUp}
use Rattle.member_gate.specs.Desks.{DeskView}
use Rattle.member_gate.specs.Reporting.{cursor_at}
use Rattle.script_text.specs.declared.fault.LineFault.{LineFault}
use Rattle.line_work.specs.Standing.{WorkerView, IsDeskOf}
use Rattle.line_work.specs.Standing as feed
use Rattle.replay_core.specs.PlainFloor.{ShowsJournals}
use Rattle.replay_core.specs.Playing.{Playing, Member, reports_at}
use Rattle.replay_core.specs.Pulling.{ShowsFronts}

-- what a player keeps: its worker of lines, its floor, how many reports each symbol had behind the last line, and the fault
-- at which it stands, if any
pub record Kept (F : Type 0) : Type 0 where
  pub worker : WorkerView
  pub floor : F
  pub fronts : List ℕ
  pub fault : Option LineFault

abbrev pub kept_of : {F : Type 0} → WorkerView → F → List ℕ → Option LineFault → Kept F
kept_of worker floor fronts fault = record { worker = worker; floor = floor; fronts = fronts; fault = fault }

-- of these reports the same ones of a member come past one position as past the other; more reports change nothing of that
pub record IsSamePast (member : ℕ) (reports : List Report) (a b : ℕ) : Type 0 where
  pub first : a ≤ length reports
  pub second : b ≤ length reports
  pub same : reports_of member a reports ≡ reports_of member b reports

-- no report of the member stands between these cursors and those
abbrev pub AreCursors : Config → List (List Event) → ℕ → List ℕ → List ℕ → Type 0
AreCursors config journals member xs ys =
    (symbol : ℕ) → symbol < length config.symbols
    → IsSamePast member (reports_at config journals symbol) (cursor_at xs symbol) (cursor_at ys symbol)

-- a desk is that of a member
pub record IsDeskOfMember (config : Config) (journals : List (List Event)) (desk : DeskView) (member : Member) : Type 0 where
  pub connection : IsDeskOf desk member.connection
  pub cursors : AreCursors config journals desk.member desk.cursors member.cursors

-- between lines: the cursors are those of a desk, and where its session is up its member was sent all
pub record AreSent (config : Config) (journals : List (List Event)) (desk : DeskView) (cursors : List ℕ) : Type 0 where
  pub past : AreCursors config journals desk.member desk.cursors cursors
  pub sent : IsUp desk.session → (symbol : ℕ) → symbol < length config.symbols
      → cursor_at cursors symbol ≡ length (reports_at config journals symbol)

-- what is kept stands for a body in the middle, at no fault
pub record StandsFor {F : Type 0} (at : F → ℕ → SymbolView) (kept : Kept F) (playing : Playing) : Type 0 where
  pub clear : kept.fault ≡ None
  pub feed : feed.StandsFor kept.worker playing.feed
  pub cursors : AllZip (AreSent playing.feed.config playing.journals) kept.worker.desks playing.cursors
  pub journals : ShowsJournals at playing.feed.config kept.floor playing.journals
  pub each : length playing.journals ≡ length playing.feed.config.symbols
  pub fronts : ShowsFronts at playing.feed.config kept.floor kept.fronts
