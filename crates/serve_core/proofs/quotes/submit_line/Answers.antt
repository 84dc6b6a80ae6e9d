-- What the line says was submitted, or refused.
use Rattle.std.proofs.lemmas.Result.{on_ok_weaker}
use Rattle.serve_core.specs.Quoting.{quote_in}
use Rattle.serve_core.proofs.QuoteReads.{line_refused, weighed_fault, weighed_quote}
use Rattle.serve_core.proofs.quotes.submit_line.Goals as goal

pub returns-in-Ok-clause-ok : goal.returns-in-Ok-clause-ok
returns-in-Ok-clause-ok g c =
    let says = weighed_quote c.args.config.now c.args.line.text.now c.args.line.number c.args.line.is_over c.read_quote_line-read.result c.weigh.result
    c.in-Ok.quote c.read_quote_line-read.ensures.line c.weigh.ensures c.in-Ok.is in
    on_ok_weaker c.submit_now.result (λ submits. (quote_in c.in-Ok.quote, says.0, submits)) c.submit_now.ensures.ok

pub returns-in-Ok-clause-err : goal.returns-in-Ok-clause-err
returns-in-Ok-clause-err g c =
    let says = weighed_quote c.args.config.now c.args.line.text.now c.args.line.number c.args.line.is_over c.read_quote_line-read.result c.weigh.result
    c.in-Ok.quote c.read_quote_line-read.ensures.line c.weigh.ensures c.in-Ok.is in
    rw says.0 c.submit_now.ensures.err

pub returns-in-Err-clause-err : goal.returns-in-Err-clause-err
returns-in-Err-clause-err g c =
    let says = weighed_fault c.args.config.now c.args.line.text.now c.args.line.number c.args.line.is_over c.read_quote_line-read.result c.weigh.result
    c.in-Err.fault c.read_quote_line-read.ensures.line c.weigh.ensures c.in-Err.is in
    rw (c.end_of.ensures, c.fault_at.ensures) (line_refused g.F.Floor.at (g.F.Floor.mark c.args.floor.now) _ c.args.line.number _ c.in-Err.fault _ says)
