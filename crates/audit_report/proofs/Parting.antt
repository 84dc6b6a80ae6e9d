-- The part of a symbol, by the rows that are held.
use Rattle.std.proofs.Common.{◌≡◌, ◌<◌, ℕ, ◌==◌, Bool, true, false, cond, List, [], ◌++◌, length, take, refl, ◌∙◌, ap, arith}
use Rattle.std.proofs.lemmas.Bool.Decides.{nat_tests}
use Rattle.venue_words.specs.declared.config.Config.{Config}
use Rattle.venue_words.specs.declared.command.Event.{Event}
use Rattle.venue_words.specs.declared.report.Report.{Report}
use Rattle.listing.specs.Commands.{name_at}
use Rattle.audit_core.specs.Audited.{run_of}
use Rattle.audit_html.specs.Chunks.{Holds, boxed}
use Rattle.audit_html.specs.declared.chunks.Chunks.{Chunks}
use Rattle.audit_html.proofs.Boxing.{some_boxed}
use Rattle.audit_report.proofs.Chaining.{joined}
use Rattle.audit_report.specs.declared.parts.Part.{Part}
use Rattle.audit_report.specs.declared.parts.Part.TheVariants.{Trades, Orders, Refusals}
use Rattle.audit_report.specs.Gathering.{body_held}
use Rattle.audit_report.specs.Orders.{order_rows}
use Rattle.audit_report.specs.Parts.{box}
use Rattle.audit_report.specs.Refusals.{refusal_rows}
use Rattle.audit_report.specs.Sections.{body_if, body_text, part_frame, part_of, part_text, section_text, share_of}
use Rattle.audit_report.specs.TradeRows.{trade_rows}

body_by : (part : Part) (symbol : List ℕ) (rows : List (List ℕ)) (chunks : Chunks) (b : Bool) → Holds (box part) rows chunks → (chunks.shown == 0) ≡ b
    → cond b [] (body_text part symbol (chunks.text.items ++ (box part).end)) ≡ cond b [] (body_text part symbol (boxed (box part) (take chunks.most rows)))
body_by part symbol rows chunks true holds is = refl
body_by part symbol rows chunks false holds is =
    let some : 0 < chunks.shown = grind (arith, nat_tests, is) in
    ap (body_text part symbol)
    (some_boxed (box part) rows chunks (box part).end [] chunks.text.items (chunks.text.items ++ (box part).end) holds some refl refl refl)

held_body : (part : Part) (symbol : List ℕ) (rows : List (List ℕ)) (chunks : Chunks) → Holds (box part) rows chunks
    → body_held part symbol chunks ≡ body_if part symbol chunks.most rows
held_body part symbol rows chunks holds =
    body_by part symbol rows chunks (chunks.shown == 0) holds refl
    ∙ ap (λ (n : ℕ). cond (n == 0) [] (body_text part symbol (boxed (box part) (take chunks.most rows)))) holds.shown

held_part : (part : Part) (symbol : List ℕ) (rows : List (List ℕ)) (chunks : Chunks) → Holds (box part) rows chunks
    → part_frame part chunks.all chunks.most (body_held part symbol chunks) ≡ part_text part symbol chunks.most rows
held_part part symbol rows chunks holds =
    ap (λ (n : ℕ). part_frame part n chunks.most (body_held part symbol chunks)) holds.all
    ∙ ap (part_frame part (length rows) chunks.most) (held_body part symbol rows chunks holds)

-- what is put of the rows that are held is the part of the symbol
pub part_held : (part : Part) (config : Config) (symbol : ℕ) (name : List ℕ) (rows : List (List ℕ)) (chunks : Chunks) (old new : List ℕ)
    → Holds (box part) rows chunks → chunks.most ≡ share_of part config → name ≡ name_at config.symbols symbol
    → new ≡ old ++ part_frame part chunks.all chunks.most (body_held part name chunks) → new ≡ old ++ part_of part config symbol rows
part_held part config symbol name rows chunks old new holds most name_is text =
    text
    ∙ ap (λ (t : List ℕ). old ++ t) (held_part part name rows chunks holds)
    ∙ ap (λ (n : ℕ). old ++ part_text part name n rows) most
    ∙ ap (λ (s : List ℕ). old ++ part_text part s (share_of part config) rows) name_is

-- a symbol's three parts, one after the other
pub section_held : (config : Config) (symbol : ℕ) (journal : List Event) (reports : List Report) (old first second new : List ℕ)
    → reports ≡ (run_of config symbol journal).reports → first ≡ old ++ part_of Trades config symbol (trade_rows config symbol journal)
    → second ≡ first ++ part_of Orders config symbol (order_rows config symbol journal)
    → new ≡ second ++ part_of Refusals config symbol (refusal_rows config reports) → new ≡ old ++ section_text config symbol journal
section_held config symbol journal reports old first second new are a b c =
    let trades = part_of Trades config symbol (trade_rows config symbol journal) in
    let orders = part_of Orders config symbol (order_rows config symbol journal) in
    let refusals = part_of Refusals config symbol (refusal_rows config (run_of config symbol journal).reports) in
    joined old (trades ++ orders) refusals (joined old trades orders a b)
    (c ∙ ap (λ (r : List Report). second ++ part_of Refusals config symbol (refusal_rows config r)) are)
