-- Who is asked behind a line, and at which symbols.
use Rattle.std.specs.Prelude.{◌≡◌, ◌≢◌, ◌⊎◌, ℕ, ◌<◌, ℤ, Bool, true, false, List, [], length, Option, Some, None, slice_index, slice_index_or}
use Rattle.venue_words.specs.declared.config.Config.{Config}
use Rattle.venue_words.specs.declared.command.Event.{Event}
use Rattle.venue_words.specs.declared.report.Report.{Report}
use Rattle.venue_words.specs.Floors.{SymbolView}
use Rattle.venue_words.specs.Journals.{reports_of}
use Rattle.session_core.specs.Machine.{IsUp}
use Rattle.member_gate.specs.Desks.{DeskView}
use Rattle.member_gate.specs.Reporting.{cursor_at, asked_at}
use Rattle.script_text.specs.declared.body.Line.{Line}
use Rattle.script_text.specs.declared.body.Line.TheVariants.{Moment, Quote, Piece, Open}
use Rattle.line_work.specs.FeedState.{Connection}
use Rattle.line_work.specs.Pulling.{PulledOne}
use Rattle.replay_core.specs.Playing.{Member, reports_at}
use Rattle.replay_core.specs.Stages.{IsDeskOfMember}

-- the row of a member: at which symbols he is asked
abbrev pub row_at : List (List Bool) → ℕ → List Bool
row_at asked member = slice_index_or asked member []

-- whether a member is asked at a symbol
abbrev pub asks : List (List Bool) → ℕ → ℕ → Bool
asks asked member symbol = asked_at (row_at asked member) symbol

-- each of so many members has a row of so many symbols
abbrev pub AreRows : ℕ → ℕ → List (List Bool) → Type 0
AreRows members symbols asked = (member : ℕ) → member < members → length (row_at asked member) ≡ symbols

-- at no symbol, and at some symbol
abbrev pub AsksNone : List Bool → Type 0
AsksNone row = (symbol : ℕ) → asked_at row symbol ≡ false

pub record AsksSome (row : List Bool) : Type 0 where
  pub symbol : ℕ
  pub is : asked_at row symbol ≡ true

-- who is noted is asked at some symbol, and who is not at none
pub record IsNotedRight (noted : Bool) (row : List Bool) : Type 0 where
  pub none : noted ≡ false → AsksNone row
  pub some : noted ≡ true → AsksSome row

-- one of so many symbols has reports of the member behind these fronts
pub record HasNews {F : Type 0} (at : F → ℕ → SymbolView) (floor : F) (symbols : ℕ) (fronts : List ℕ) (member symbol : ℕ) : Type 0 where
  pub within : symbol < symbols
  pub some : reports_of member (slice_index fronts symbol) (at floor symbol).reports ≢ []

-- ---- a line

-- the member whose piece a line is
abbrev pub own_of : Line → Option ℕ
own_of (Moment moment) = None
own_of (Quote symbol command) = None
own_of (Piece member bytes) = Some member
own_of (Open member) = None

-- a connection before and behind a line: the session did not come up, unless it is that of this member
pub record KeepsDown (own : Option ℕ) (before after : Connection) : Type 0 where
  pub number : after.number ≡ before.number
  pub down : (own ≡ Some before.number → ⊥) → IsUp after.session → IsUp before.session

-- ---- what waits

-- past the cursors no report of the member stands
abbrev pub NoneWaits : Config → List (List Event) → ℕ → List ℕ → Type 0
NoneWaits config journals member cursors =
    (symbol : ℕ) → symbol < length config.symbols
    → reports_of member (cursor_at cursors symbol) (reports_at config journals symbol) ≡ []

-- nor does one at a symbol that is not asked
abbrev pub NoneElsewhere : Config → List (List Event) → List Bool → ℕ → List ℕ → Type 0
NoneElsewhere config journals row member cursors =
    (symbol : ℕ) → symbol < length config.symbols → asked_at row symbol ≡ false
    → reports_of member (cursor_at cursors symbol) (reports_at config journals symbol) ≡ []

-- a desk is that of a member, for whom nothing waits at a symbol at which he is not asked
pub record IsAsked (asked : List (List Bool)) (config : Config) (journals : List (List Event)) (desk : DeskView) (member : Member) : Type 0 where
  pub stands : IsDeskOfMember config journals desk member
  pub quiet : IsUp desk.session → NoneElsewhere config journals (row_at asked desk.member) desk.member member.cursors

-- of these desks the one of this number was pulled; or its member is asked at no symbol, and nothing was done
abbrev pub PulledIf : Config → ℤ → List Bool → (ℕ → List Report) → ℕ → List DeskView → List DeskView → List ℕ → List ℕ → Type 0
PulledIf config moment row reports number before after old new =
    PulledOne config moment row reports number before after old new ⊎ (AsksNone row × (after ≡ before) × (new ≡ old))
