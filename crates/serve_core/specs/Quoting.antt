-- How the quotes of a file are submitted, and how that ends.
use Rattle.std.specs.Prelude.{◌≡◌, ◌⊎◌, ◌+◌, ◌++◌, [], ℕ, ℤ, List, Option, Some, None, Result, Ok, Err, length, map, slice_index, MatchOption}
use Rattle.std.specs.Io.KnownBytes.{Consumes}
use Rattle.io_edge.specs.Clocks.{GaveMoment}
use Rattle.venue_words.specs.declared.config.Config.{Config}
use Rattle.venue_words.specs.Floors.{FloorMark, SymbolView}
use Rattle.member_gate.specs.Answering.{Submission}
use Rattle.member_gate.specs.Submitting.{IsNextAt}
use Rattle.script_text.specs.declared.fault.LineFault.{LineFault}
use Rattle.script_text.specs.declared.fault.LineFault.TheVariants as fault
use Rattle.link_work.specs.Turns.{GaveMoments}
use Rattle.serve_core.specs.QuoteFiles.{file_quotes, quotes_in, behind}
use Rattle.serve_core.specs.Turning.{GrewBy}
use Rattle.serve_core.specs.declared.quotes.Quote.{Quote}
use Rattle.serve_core.specs.declared.quotes.QuoteEnd.{QuoteEnd}
use Rattle.serve_core.specs.declared.quotes.QuoteEnd.TheVariants.{Done, BadLine, LimitLine, Full, ReadFault, NoMemory}

-- the feed of a file's quotes, behind those of all members
abbrev pub feed_behind : Config → ℕ
feed_behind config = length config.members + 1

-- what quotes are submitted to, and the moments that the clock has given, where it tells them
pub record Place (F : Type 0) : Type 0 where
  pub floor : F
  pub clock : Option (List ℤ)

abbrev pub place : {F : Type 0} → F → Option (List ℤ) → Place F
place floor clock = record { floor = floor; clock = clock }

-- on every symbol the own calls grew by exactly these quotes, in their order, each with the moment that the clock gave for it
pub record Submits {F : Type 0} (at : F → ℕ → SymbolView) (feed : ℕ) (quotes : List Submission) (before after : Place F) : Type 0 where
  pub timed : List (ℤ × Submission)
  pub are : map (λ one. one.1) timed ≡ quotes
  pub moments : GaveMoments (map (λ one. one.0) timed) before.clock after.clock
  pub grew : GrewBy at feed timed before.floor after.floor

-- the clock was asked for the moment of one more quote, or not
abbrev pub AskedOnce : Option (List ℤ) → Option (List ℤ) → Type 0
AskedOnce before after = (after ≡ before) ⊎ ((moment : ℤ) × GaveMoment moment before after)

-- the first of these quotes were submitted, and none of those that are left
pub record SubmitsSome {F : Type 0} (at : F → ℕ → SymbolView) (feed : ℕ) (quotes : List Submission) (before after : Place F) : Type 0 where
  pub taken : List Submission
  pub left : List Submission
  pub parts : quotes ≡ taken ++ left
  pub between : Option (List ℤ)
  pub submits : Submits at feed taken before (place after.floor between)
  pub asked : AskedOnce between after.clock

-- and the next one came to a journal of its symbol that holds its limit
pub record FindsFull {F : Type 0} (at : F → ℕ → SymbolView) (mark : FloorMark) (feed : ℕ) (quotes : List Submission) (symbol found : ℕ) (before after : Place F) : Type 0 where
  pub some : SubmitsSome at feed quotes before after
  pub next : IsNextAt some.left symbol
  pub found_is : found ≡ length (at after.floor symbol).journal
  pub limit : found ≡ slice_index mark.setup.limits symbol

-- a read failed: the quotes of the whole lines that were given were submitted
pub record SubmitsGiven {F : Type 0} (at : F → ℕ → SymbolView) (config : Config) (text : List ℕ) (left : Option (List ℕ)) (before after : Place F) : Type 0 where
  pub given : List ℕ
  pub rest : List ℕ
  pub whole : text ≡ given ++ rest
  pub place_is : MatchOption left (given ≡ []) (λ l. l ≡ rest)
  pub submits : Submits at (feed_behind config) (file_quotes config given).quotes before after

-- the first line that is refused, or none, is this one, and all quotes before it were submitted
pub record StopsAt {F : Type 0} (at : F → ℕ → SymbolView) (config : Config) (text : List ℕ) (why : Option LineFault) (before after : Place F) : Type 0 where
  pub why_is : (file_quotes config text).fault ≡ why
  pub submits : Submits at (feed_behind config) (file_quotes config text).quotes before after

-- how a file with this text ended; of the file so much is left
abbrev pub QuotesEnd : {F : Type 0} → (F → ℕ → SymbolView) → FloorMark → Config → List ℕ → Option (List ℕ) → QuoteEnd → Place F → Place F → Type 0
QuotesEnd at mark config text left Done before after = StopsAt at config text None before after
QuotesEnd at mark config text left (BadLine n cause) before after = StopsAt at config text (Some (fault.Bad n cause)) before after
QuotesEnd at mark config text left (LimitLine n which) before after = StopsAt at config text (Some (fault.Limit n which)) before after
QuotesEnd at mark config text left (Full symbol found) before after =
    FindsFull at mark (feed_behind config) (file_quotes config text).quotes symbol found before after
QuotesEnd at mark config text left ReadFault before after = SubmitsGiven at config text left before after
QuotesEnd at mark config text left NoMemory before after =
    SubmitsSome at (feed_behind config) (file_quotes config text).quotes before after

-- ---- a line

-- a quote that was read
abbrev pub quote_in : Quote → Submission
quote_in quote = record { symbol = quote.symbol; command = quote.command }

-- the end at a refused line
abbrev pub end_of : LineFault → QuoteEnd
end_of (fault.Bad line cause) = BadLine line cause
end_of (fault.Limit line which) = LimitLine line which
end_of fault.NoMemory = NoMemory

-- the end of a file, where its first refused line is refused so, or none is
abbrev pub end_with : Option LineFault → QuoteEnd
end_with None = Done
end_with (Some why) = end_of why

-- a quote came to a journal of its symbol that holds its limit, and was not submitted
pub record RefusesQuote {F : Type 0} (at : F → ℕ → SymbolView) (mark : FloorMark) (feed : ℕ) (quote : Submission) (symbol found : ℕ) (before after : Place F) : Type 0 where
  pub none : Submits at feed [] before (place after.floor before.clock)
  pub asked : AskedOnce before.clock after.clock
  pub next : quote.symbol ≡ symbol
  pub found_is : found ≡ length (at after.floor symbol).journal
  pub limit : found ≡ slice_index mark.setup.limits symbol

-- how a line ended the file that says this
abbrev pub LineEnds : {F : Type 0} → (F → ℕ → SymbolView) → FloorMark → ℕ → Result Submission LineFault → QuoteEnd → Place F → Place F → Type 0
LineEnds at mark feed meant Done before after = ⊥
LineEnds at mark feed meant ReadFault before after = ⊥
LineEnds at mark feed meant (BadLine n cause) before after = (meant ≡ Err (fault.Bad n cause)) × (after ≡ before)
LineEnds at mark feed meant (LimitLine n which) before after = (meant ≡ Err (fault.Limit n which)) × (after ≡ before)
LineEnds at mark feed meant (Full symbol found) before after =
    (quote : Submission) × (meant ≡ Ok quote) × RefusesQuote at mark feed quote symbol found before after
LineEnds at mark feed meant NoMemory before after =
    Submits at feed [] before (place after.floor before.clock) × AskedOnce before.clock after.clock

-- ---- in the middle

-- the quotes of the lines so far were submitted: those lines lead to these numbers of lines and bytes, and these bytes are held
pub record InMiddle {F : Type 0} (at : F → ℕ → SymbolView) (config : Config) (first left : Option (List ℕ)) (lines bytes : ℕ) (held : List ℕ) (before after : Place F) : Type 0 where
  pub quotes : List Submission
  pub submits : Submits at (feed_behind config) quotes before after
  pub worked : List ℕ
  pub taken : Consumes first left (worked ++ held)
  pub leads : (more : List ℕ) → file_quotes config (worked ++ more) ≡ behind quotes (quotes_in config lines bytes more)
