-- A member's reports past the cursors of his desk.
use Rattle.std.specs.Prelude.{◌≡◌, ◌⊎◌, ℕ, ◌+◌, ◌<◌, ◌≤◌, max, Bool, true, false, if◌then◌else◌, List, [], ◌∷◌, ◌++◌, map, length, slice_index, slice_index_or}
use Rattle.venue_words.specs.declared.config.Config.{Config}
use Rattle.venue_words.specs.declared.report.Report.{Report}
use Rattle.venue_words.specs.Floors.{SymbolView, TurnsRose}
use Rattle.venue_words.specs.Journals.{reports_of}
use Rattle.session_core.specs.declared.message.Message.{Message}
use Rattle.member_gate.specs.Answering.{name_at, message_of}

-- how many reports of a symbol a desk has gone through: none where that was never set
abbrev pub cursor_at : List ℕ → ℕ → ℕ
cursor_at cursors symbol = slice_index cursors symbol

-- the member's reports of a symbol from a position on, as messages
unfoldable pub messages_at : Config → ℕ → List ℕ → ℕ → List Report → List Message
messages_at config member symbol from reports =
    map (message_of (name_at config.members member) symbol) (reports_of member from reports)

-- the member's reports past the cursors, as messages, of symbols in their order, the first of which has this number
abbrev pub messages_from : Config → ℕ → List ℕ → (ℕ → List Report) → ℕ → List (List ℕ) → List Message
messages_from config member cursors reports number [] = []
messages_from config member cursors reports number (symbol ∷ symbols) =
    messages_at config member symbol (cursor_at cursors number) (reports number)
    ++ messages_from config member cursors reports (number + 1) symbols

-- those of all symbols, in the config's order
abbrev pub messages_past : Config → ℕ → List ℕ → (ℕ → List Report) → List Message
messages_past config member cursors reports = messages_from config member cursors reports 0 config.symbols

-- the cursor of each of so many symbols went on to the end of the symbol's reports where that is further on; no other moved
pub record MovedOn (symbols : ℕ) (reports : ℕ → List Report) (before after : List ℕ) : Type 0 where
  pub read : (symbol : ℕ) → symbol < symbols → cursor_at after symbol ≡ max (cursor_at before symbol) (length (reports symbol))
  pub rest : (symbol : ℕ) → symbols ≤ symbol → cursor_at after symbol ≡ cursor_at before symbol

-- how many reports each of so many symbols has
pub record AreFronts (symbols : ℕ) (reports : ℕ → List Report) (fronts : List ℕ) : Type 0 where
  pub each : length fronts ≡ symbols
  pub read : (symbol : ℕ) → symbol < symbols → slice_index fronts symbol ≡ length (reports symbol)

-- ---- where only some symbols are asked

-- whether a symbol is asked for a member's reports
abbrev pub asked_at : List Bool → ℕ → Bool
asked_at asked symbol = slice_index_or asked symbol false

-- the reports of a symbol that is asked; none of another
abbrev pub where_asked : Bool → List Report → List Report
where_asked asked reports = if asked then reports else []

-- the reports of the symbols that are asked
abbrev pub asked_reports : List Bool → (ℕ → List Report) → ℕ → List Report
asked_reports asked reports = λ symbol. where_asked (asked_at asked symbol) (reports symbol)

-- some symbol that is asked has more reports than were gone through; the fronts tell how many each symbol has
pub record ArePast (fronts : List ℕ) (asked : List Bool) (cursors : List ℕ) : Type 0 where
  pub symbol : ℕ
  pub told : symbol < length fronts
  pub is_asked : asked_at asked symbol ≡ true
  pub past : cursor_at cursors symbol < slice_index fronts symbol

-- a symbol is not asked, or no report of it stands past the cursor
abbrev pub HasNoNews : Bool → ℕ → SymbolView → Type 0
HasNoNews asked cursor view = (asked ≡ false) ⊎ (length view.reports ≤ cursor)

-- the floor was called for a symbol's reports exactly where it is asked and some stand past the cursor
pub record IsAskedForNews (asked : Bool) (cursor : ℕ) (before after : SymbolView) : Type 0 where
  pub unasked : HasNoNews asked cursor before → after ≡ before
  pub rose : asked ≡ true → cursor < length before.reports → TurnsRose before.turns after.turns
