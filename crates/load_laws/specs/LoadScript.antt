-- How the lines of the load script are read.
use Rattle.std.specs.Prelude.{◌≡◌, ℕ, ◌+◌, ◌%◌, ◌^◌, ◌<◌, ◌≤◌, ◌==◌, ℤ, List, [], length, take, Ok, codes, if◌then◌else◌}
use Rattle.venue_words.specs.declared.config.Config.{Config}
use Rattle.venue_words.specs.declared.limits.TheConstants.{MAX_FRAME_BYTES}
use Rattle.fix_frames.specs.Frames.{IsFrame}
use Rattle.script_text.specs.Body.{read_of}
use Rattle.script_text.specs.Config.{header_of}
use Rattle.script_text.specs.Header.{blank}
use Rattle.script_text.specs.Load.{load_lines, order_line, quote_line, last_line}
use Rattle.script_text.specs.declared.body.Line.TheVariants.{Piece, Quote}
use Rattle.load_laws.specs.LoadTextLaws.{load_config, begins_at, logon_line, low, high}

-- the first five lines are a whole header, which says the script's config: its limit leaves room for each order and quote
abbrev pub HeaderIsRead : Type 0
HeaderIsRead =
    (orders quotes : ℕ) → orders + quotes + 2 ≤ 1000000 →
    header_of 0 blank (take 5 (load_lines orders quotes)) [] ≡ Ok (load_config (orders + quotes + 2) begins_at, 5)

-- a line is read as bytes for the member whose number is 0: one whole frame, within the limit on frames
pub record IsReadAsFrame (config : Config) (line : List ℕ) : Type 0 where
  pub frame : List ℕ
  pub read : read_of config line ≡ Ok (Piece 0 frame)
  pub is : IsFrame frame
  pub fits : length frame ≤ MAX_FRAME_BYTES

-- so are the Logon, each order, and the order behind all others
abbrev pub MessagesAreFrames : Type 0
MessagesAreFrames =
    (limit : ℕ) (begin : ℤ) →
    IsReadAsFrame (load_config limit begin) logon_line
    × ((i : ℕ) → i < 2 ^ 32 → IsReadAsFrame (load_config limit begin) (order_line i))
    × ((orders : ℕ) → orders < 2 ^ 32 → IsReadAsFrame (load_config limit begin) (last_line orders))

-- the first quote, and each quote behind the orders, is read as one for the symbol whose number is 0
abbrev pub QuotesAreRead : Type 0
QuotesAreRead =
    (limit : ℕ) (begin : ℤ) →
    (read_of (load_config limit begin) (codes "Q L M 10.00 10.02") ≡ Ok (Quote 0 low))
    × ((k : ℕ) → read_of (load_config limit begin) (quote_line k) ≡ Ok (Quote 0 (if k % 2 == 1 then high else low)))
