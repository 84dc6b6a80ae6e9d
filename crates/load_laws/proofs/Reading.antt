-- How the lines of the load script are read.
use Rattle.std.proofs.Common.{◌≡◌, ℕ, ◌+◌, ◌%◌, ◌==◌, true, false, cond, ℤ, List, [], ◌∷◌, ◌++◌, Ok, codes, decimal, ◌∙◌, ap, arith}
use Rattle.script_text.specs.Body.{read_of}
use Rattle.script_text.specs.Config.{header_of, on_line}
use Rattle.script_text.specs.Header.{Step, header_line, blank, with_config}
use Rattle.script_text.specs.Load.{load_lines, order_line, quote_line, last_line}
use Rattle.script_text.specs.declared.body.Line.TheVariants.{Quote}
use Rattle.script_text.specs.declared.header.Header.{Header}
use Rattle.load_laws.specs.LoadScript.{HeaderIsRead, IsReadAsFrame, MessagesAreFrames, QuotesAreRead}
use Rattle.load_laws.specs.LoadTextLaws.{IsMessage, load_config, begins_at, frame_in, message_framed, message_read, logon_line, logon_message, order_message, last_message, low, high, low_read, high_read, header_one, header_two, header_three, header_four, version_read, member_read, market_read, symbol_read, begin_read}

header_more : (n : ℕ) (header next : Header) (line : List ℕ) (lines : List (List ℕ)) → header_line (n + 1) header line ≡ Ok (false, next)
    → header_of n header (line ∷ lines) [] ≡ header_of (n + 1) next lines []
unfolding header_of
header_more n header next line lines e = ap (λ (step : Step). on_line (n + 1) step lines [] (λ h. header_of (n + 1) h lines [])) e

header_last : (n : ℕ) (header next : Header) (line : List ℕ) → header_line (n + 1) header line ≡ Ok (true, next)
    → header_of n header (line ∷ []) [] ≡ Ok (next.config, n + 1)
unfolding header_of
header_last n header next line e = ap (λ (step : Step). on_line (n + 1) step [] [] (λ h. header_of (n + 1) h [] [])) e

pub header_is_read : HeaderIsRead
unfolding load_lines
header_is_read orders quotes room =
    let limit = orders + quotes + 2 in
    let last = codes "BEGIN 20240102-14:30:00.000" in
    let fourth = codes "SYMBOL L " ++ decimal limit in
    header_more 0 blank header_one (codes "PEGV 1") (codes "MEMBER A" ∷ codes "MARKET M" ∷ fourth ∷ last ∷ []) version_read
    ∙ header_more 1 header_one header_two (codes "MEMBER A") (codes "MARKET M" ∷ fourth ∷ last ∷ []) member_read
    ∙ header_more 2 header_two header_three (codes "MARKET M") (fourth ∷ last ∷ []) market_read
    ∙ header_more 3 header_three (header_four limit) fourth (last ∷ []) (symbol_read limit (omega arith) (omega (arith, room)))
    ∙ header_last 4 (header_four limit) (with_config (header_four limit) (load_config limit begins_at)) last (begin_read limit)

as_frame : (limit : ℕ) (begin : ℤ) (line : List ℕ) (m : IsMessage line) → IsReadAsFrame (load_config limit begin) line
as_frame limit begin line m =
    let framed = message_framed line m in
    record { frame = frame_in m; read = message_read limit begin line m; is = framed.0; fits = framed.1 }

pub messages_are_frames : MessagesAreFrames
messages_are_frames limit begin = (
  as_frame limit begin logon_line logon_message,
  λ i small. as_frame limit begin (order_line i) (order_message i small),
  λ orders small. as_frame limit begin (last_line orders) (last_message orders small),
)

pub quotes_are_read : QuotesAreRead
unfolding quote_line
quotes_are_read limit begin = (
  low_read limit begin,
  λ k. elim (k % 2 == 1) as (λ b. read_of (load_config limit begin) (cond b (codes "Q L M 10.01 10.03") (codes "Q L M 10.00 10.02"))
      ≡ Ok (Quote 0 (cond b high low))) [
        | true ↦ high_read limit begin
        | false ↦ low_read limit begin
      ],
)
