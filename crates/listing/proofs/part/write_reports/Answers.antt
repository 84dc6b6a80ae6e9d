-- Each report goes behind those before it; where one could not, what was put is a beginning of them.
use Rattle.std.proofs.Common.{ℕ, ◌+◌, List, ◌++◌, take, drop, sym, ◌∙◌, ap, subst, arith}
use Rattle.std.specs.List.{flat_map}
use Rattle.io_edge.specs.Grows.{AppendsPrefix}
use Rattle.venue_words.specs.declared.report.Report.{Report}
use Rattle.listing.specs.Handing.{Hands}
use Rattle.listing.specs.Lines.{report_line, ended}
use Rattle.listing.proofs.Handed.{hands_more, hands_put, stops_here, stops_put, flat_parts, flat_next, at_err}
use Rattle.listing.proofs.part.write_reports.Goals as goal

pub loop-report-preserved : goal.loop-report-preserved
loop-report-preserved g c =
    let loop = c.loop-report in
    let told = c.args.told.now in
    let line = λ (r : Report). ended (report_line c.args.part.now.config.now c.args.part.now.symbol r) in
    let done = flat_map line (take loop.report-index told) in
    let x = c.args.pending.now in
    let was = g.K.Sink.told c.args.out.now in
    let item = c.report-item.result in
    let more = hands_more was (g.K.Sink.told loop.out) x loop.pending c.push_report.new.self done (line item) loop.invariant.hands c.in_ok-push_report.ensures in
    let put = hands_put was (g.K.Sink.told loop.out) (g.K.Sink.told c.put_piece.new.out) x c.push_report.new.self c.put_piece.new.self (done ++ line item) more c.in_ok-put_piece.ensures.text in record {
      hands = subst (Hands was (g.K.Sink.told c.put_piece.new.out) x c.put_piece.new.self)
          (sym (flat_next line loop.report-index told item (omega arith) c.report-item.is)) put;
      later = (let h = loop.invariant.later in let k = c.put_piece.ensures.cause.later in omega arith);
    }

pub returns-in_err-push_report-clause-text : goal.returns-in_err-push_report-clause-text
returns-in_err-push_report-clause-text g c =
    let loop = c.loop-report in
    let told = c.args.told.now in
    let line = λ (r : Report). ended (report_line c.args.part.now.config.now c.args.part.now.symbol r) in
    let done = flat_map line (take loop.report-index told) in
    let left = flat_map line (drop loop.report-index told) in
    let x = c.args.pending.now in
    let was = g.K.Sink.told c.args.out.now in
    at_err _ c.from_residual.result _ _ c.from_residual.ensures.1
    (subst (λ (l : List ℕ). AppendsPrefix was (g.K.Sink.told loop.out) (x ++ l)) (flat_parts line loop.report-index told)
    (stops_here was (g.K.Sink.told loop.out) x loop.pending done left loop.invariant.hands))

pub returns-in_err-put_piece-clause-text : goal.returns-in_err-put_piece-clause-text
returns-in_err-put_piece-clause-text g c =
    let loop = c.loop-report in
    let told = c.args.told.now in
    let line = λ (r : Report). ended (report_line c.args.part.now.config.now c.args.part.now.symbol r) in
    let done = flat_map line (take loop.report-index told) in
    let item = c.report-item.result in
    let left = flat_map line (drop (loop.report-index + 1) told) in
    let x = c.args.pending.now in
    let was = g.K.Sink.told c.args.out.now in
    let now = g.K.Sink.told c.put_piece.new.out in
    let more = hands_more was (g.K.Sink.told loop.out) x loop.pending c.push_report.new.self done (line item) loop.invariant.hands c.in_ok-push_report.ensures in
    let next = flat_next line loop.report-index told item (omega arith) c.report-item.is in
    at_err _ c.from_residual-in_err-put_piece.result _ _ c.from_residual-in_err-put_piece.ensures.1
    (subst (λ (l : List ℕ). AppendsPrefix was now (x ++ l))
    (ap (λ (l : List ℕ). l ++ left) (sym next) ∙ flat_parts line (loop.report-index + 1) told)
    (stops_put was (g.K.Sink.told loop.out) now x c.push_report.new.self (done ++ line item) left more c.in_err-put_piece.ensures.text))
