-- What is read of the feed of a market data session.
use Rattle.std.specs.Prelude.{◌≡◌, ◌≤ℤ◌, true, ℕ, ℤ, List, map}
use Rattle.std.specs.List.{AllByRecursion}
use Rattle.venue_words.specs.Conditions.{IsConfig}
use Rattle.venue_words.specs.declared.config.Config.{Config}
use Rattle.fix_fields.specs.declared.moments.TheConstants.{FIRST_MOMENT, LAST_MOMENT}
use Rattle.fix_frames.specs.Reading.{reading_of}
use Rattle.session_core.specs.Machine.{fresh}
use Rattle.session_stream.specs.Work.{work_of_reading}
use Rattle.member_gate.specs.Answering.{Submission}
use Rattle.script_text.specs.Words.{is_name}
use Rattle.line_work.specs.Commands.{all_commands}
use Rattle.market_data.specs.Lines.{TimedQuote, all_quotes}
use Rattle.market_data.specs.Market.{market_answer, market_of}

-- the names of markets and symbols have the form of names
pub record HasNames (config : Config) : Type 0 where
  pub markets : AllByRecursion (λ name. is_name name ≡ true) config.markets
  pub symbols : AllByRecursion (λ name. is_name name ≡ true) config.symbols

-- the quotes of the snapshots that are taken among the messages of a source, in their order
abbrev pub quotes_said : Config → List ℕ → List ℕ → List TimedQuote
quotes_said config source bytes =
    all_quotes config (work_of_reading (market_answer config) config.begin (fresh source) (reading_of bytes)).requests

-- quotes as what a feed gives, each with its moment
abbrev pub as_commands : List TimedQuote → List (ℤ × Submission)
as_commands quotes = map (λ one. (one.moment, record { symbol = one.symbol; command = one.quote })) quotes

-- moments within the years 0000 to 9999
abbrev pub AreInCalendar : List TimedQuote → Type 0
AreInCalendar quotes = AllByRecursion (λ one. (FIRST_MOMENT ≤ℤ one.moment) × (one.moment ≤ℤ LAST_MOMENT)) quotes

abbrev pub FeedsAreReadBack : Type 0
FeedsAreReadBack =
    (config : Config) (source bytes : List ℕ) → IsConfig config → HasNames config → AreInCalendar (quotes_said config source bytes)
    → all_commands config (market_of config source bytes).lines ≡ as_commands (quotes_said config source bytes)
