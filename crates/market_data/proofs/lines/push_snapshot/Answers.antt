-- One more quote behind its moment.
use Rattle.std.proofs.Common.{◌≡◌, ◌<◌, ◌∙◌, List, length, get_or, ap, arith, w64, to_z, of_z}
use Rattle.venue_words.specs.declared.command.Command.{Command}
use Rattle.market_data.proofs.LineSteps.{moment_more, quote_more}
use Rattle.market_data.proofs.lines.push_snapshot.Goals as goal

pub loop-quote-preserved : goal.loop-quote-preserved
loop-quote-preserved c =
    let i = c.loop-quote.invariant in
    let quote = c.quote-item.result in
    let quotes = c.args.snapshot.now.quotes in
    let moment = to_z w64 (of_z w64 c.args.moment) in
    let same = c.as_slice-quote-items.ensures in
    let size = ap (length {A = Command}) same in
    let within : c.loop-quote.quote-index < length quotes = omega arith in
    let is : quote ≡ get_or quotes c.loop-quote.quote-index quote =
    c.quote-item.is ∙ ap (λ (qs : List Command). get_or qs c.loop-quote.quote-index quote) same in record {
      lines = quote_more c.args.config.now _ c.loop-quote.text.items c.push_moment_line.new.text.items c.push_quote.new.text.items c.loop-quote.last
          moment c.args.snapshot.now.symbol quotes c.loop-quote.quote-index quote within is i.lines c.in_ok-push_moment_line.ensures c.in_ok-push_quote.ensures;
      last = moment_more _ c.loop-quote.last moment c.args.snapshot.now.symbol quotes c.loop-quote.quote-index quote within is i.last;
    }
