-- The symbol's line stands before its events, and all is put.
use Rattle.std.proofs.Common.{◌≡◌, ℕ, List, [], ◌++◌, length, Option, ◌∙◌, ap, subst, append-nil}
use Rattle.io_edge.specs.Grows.{AppendsPrefix}
use Rattle.std.specs.Io.KnownBytes.{Appends}
use Rattle.venue_words.specs.declared.command.Event.{Event}
use Rattle.venue_words.specs.declared.config.Config.{Config}
use Rattle.venue_words.specs.declared.report.Report.{Report}
use Rattle.listing.specs.Commands.{name_at}
use Rattle.listing.specs.Handing.{Hands}
use Rattle.listing.specs.Listing.{IsInOrder, part_text}
use Rattle.listing.specs.Lines.{symbol_line, ended}
use Rattle.listing.specs.Walking.{walked}
use Rattle.listing.proofs.Handed.{hands_none, hands_trans, hands_put, hands_all, stops_after, stops_put, at_err}
use Rattle.listing.proofs.Standing.{walks}
use Rattle.listing.proofs.part.write_part.Goals as goal

abbrev first_line : Config → ℕ → List Event → List Report → List ℕ
first_line config symbol journal reports =
    ended (symbol_line (name_at config.symbols symbol) (length journal) (length reports))

whole : (config : Config) (symbol : ℕ) (journal : List Event) (reports : List Report) → IsInOrder journal reports
    → first_line config symbol journal reports ++ walked config symbol journal reports ≡ part_text config symbol journal reports
unfolding part_text
whole config symbol journal reports order =
    ap (λ (l : List ℕ). first_line config symbol journal reports ++ l) (walks config symbol journal reports order)

-- the first line is held
begins : (was : Option (List ℕ)) (config : Config) (symbol : ℕ) (journal : List Event) (reports : List Report)
    (old new name : List ℕ) → old ≡ [] → name ≡ name_at config.symbols symbol
    → new ≡ old ++ ended (symbol_line name (length journal) (length reports))
    → Hands was was [] new (first_line config symbol journal reports)
begins was config symbol journal reports old new name none is pushed =
    hands_none was [] new (first_line config symbol journal reports)
    (pushed ∙ (λ k. none k ++ ended (symbol_line (is k) (length journal) (length reports))))

pub returns-in_err-write_events-clause-text : goal.returns-in_err-write_events-clause-text
returns-in_err-write_events-clause-text g c =
    let config = c.args.part.now.config.now in
    let symbol = c.args.part.now.symbol in
    let journal = c.args.part.now.journal.now in
    let reports = c.args.part.now.reports.now in
    let was = g.K.Sink.told c.args.out.now in
    let now = g.K.Sink.told c.write_events.new.out in
    let line = first_line config symbol journal reports in
    let name = c.name_at-symbol.ensures ∙ ap (λ (l : List (List ℕ)). name_at l symbol) c.as_slice.ensures in
    let first = begins was config symbol journal reports c.in_ok-pending.pending c.push_symbol.new.self c.name_at-symbol.result.now
    c.in_ok-pending.ensures name c.in_ok-push_symbol.ensures in
    at_err _ c.from_residual-in_err-write_events.result _ _ c.from_residual-in_err-write_events.ensures.1
    (subst (AppendsPrefix was now) (whole config symbol journal reports c.requires)
    (stops_after was was now [] c.push_symbol.new.self line (walked config symbol journal reports) first c.in_err-write_events.ensures.text))

pub returns-in_err-put_all-clause-text : goal.returns-in_err-put_all-clause-text
returns-in_err-put_all-clause-text g c =
    let config = c.args.part.now.config.now in
    let symbol = c.args.part.now.symbol in
    let journal = c.args.part.now.journal.now in
    let reports = c.args.part.now.reports.now in
    let was = g.K.Sink.told c.args.out.now in
    let mid = g.K.Sink.told c.write_events.new.out in
    let now = g.K.Sink.told c.put_all.new.out in
    let line = first_line config symbol journal reports in
    let text = walked config symbol journal reports in
    let name = c.name_at-symbol.ensures ∙ ap (λ (l : List (List ℕ)). name_at l symbol) c.as_slice.ensures in
    let first = begins was config symbol journal reports c.in_ok-pending.pending c.push_symbol.new.self c.name_at-symbol.result.now
    c.in_ok-pending.ensures name c.in_ok-push_symbol.ensures in
    let all = hands_trans was was mid [] c.push_symbol.new.self c.write_events.new.pending line text first c.in_ok-write_events.ensures.text in
    at_err _ c.from_residual-in_err-put_all.result _ _ c.from_residual-in_err-put_all.ensures.1
    (subst (AppendsPrefix was now) (append-nil (line ++ text) ∙ whole config symbol journal reports c.requires)
    (stops_put was mid now [] c.write_events.new.pending (line ++ text) [] all c.in_err-put_all.ensures.text))

pub returns-clause-text : goal.returns-clause-text
returns-clause-text g c =
    let config = c.args.part.now.config.now in
    let symbol = c.args.part.now.symbol in
    let journal = c.args.part.now.journal.now in
    let reports = c.args.part.now.reports.now in
    let was = g.K.Sink.told c.args.out.now in
    let mid = g.K.Sink.told c.write_events.new.out in
    let now = g.K.Sink.told c.put_all.new.out in
    let line = first_line config symbol journal reports in
    let text = walked config symbol journal reports in
    let name = c.name_at-symbol.ensures ∙ ap (λ (l : List (List ℕ)). name_at l symbol) c.as_slice.ensures in
    let first = begins was config symbol journal reports c.in_ok-pending.pending c.push_symbol.new.self c.name_at-symbol.result.now
    c.in_ok-pending.ensures name c.in_ok-push_symbol.ensures in
    let all = hands_trans was was mid [] c.push_symbol.new.self c.write_events.new.pending line text first c.in_ok-write_events.ensures.text in
    let put = hands_put was mid now [] c.write_events.new.pending c.put_all.new.self (line ++ text) all c.in_ok-put_all.ensures.text in
    subst (Appends was now) (whole config symbol journal reports c.requires)
    (hands_all was now [] (line ++ text)
    (subst (λ (l : List ℕ). Hands was now [] l (line ++ text)) c.in_ok-put_all.ensures.none put))
