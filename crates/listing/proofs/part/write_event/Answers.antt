-- The event's line stands before its reports.
use Rattle.std.specs.List.{flat_map}
use Rattle.venue_words.specs.declared.report.Report.{Report}
use Rattle.listing.specs.Listing.{event_text}
use Rattle.listing.specs.Lines.{event_line, report_line, ended}
use Rattle.listing.proofs.Handed.{hands_none, hands_put, hands_then, stops_put, at_err}
use Rattle.listing.proofs.part.write_event.Goals as goal

pub returns-in_err-put_piece-clause-text : goal.returns-in_err-put_piece-clause-text
unfolding event_text
returns-in_err-put_piece-clause-text g c =
    let config = c.args.part.now.config.now in
    let symbol = c.args.part.now.symbol in
    let line = ended (event_line config symbol c.args.event.now) in
    let reports = flat_map (λ (r : Report). ended (report_line config symbol r)) c.args.told.now in
    let x = c.args.pending.now in
    let was = g.K.Sink.told c.args.out.now in
    at_err _ c.from_residual-in_err-put_piece.result _ _ c.from_residual-in_err-put_piece.ensures.1
    (stops_put was was (g.K.Sink.told c.put_piece.new.out) x c.push_event.new.self line reports
    (hands_none was x c.push_event.new.self line c.in_ok-push_event.ensures) c.in_err-put_piece.ensures.text)

pub returns-clause-text : goal.returns-clause-text
unfolding event_text
returns-clause-text g c =
    let config = c.args.part.now.config.now in
    let symbol = c.args.part.now.symbol in
    let line = ended (event_line config symbol c.args.event.now) in
    let reports = flat_map (λ (r : Report). ended (report_line config symbol r)) c.args.told.now in
    let x = c.args.pending.now in
    let was = g.K.Sink.told c.args.out.now in
    let mid = g.K.Sink.told c.put_piece.new.out in
    hands_then was mid (g.K.Sink.told c.write_reports.new.out) x c.put_piece.new.self c.write_reports.new.pending line reports c.write_reports.result
    (hands_put was was mid x c.push_event.new.self c.put_piece.new.self line
    (hands_none was x c.push_event.new.self line c.in_ok-push_event.ensures) c.in_ok-put_piece.ensures.text)
    c.write_reports.ensures.text
