use Rattle.std.proofs.Common.{◌≡◌, ◌<◌, ◌∙◌, length, get_or, ap, arith}
use Rattle.venue_words.specs.declared.command.Command.{Command}
use Rattle.source_session.proofs.Steps.{quote_more}
use Rattle.source_session.proofs.quotes.push_quotes.Goals as goal

pub loop-command-preserved : goal.loop-command-preserved
loop-command-preserved c =
    let command = c.command-item.result in
    let commands = c.args.snapshot.now.quotes in
    let same = c.as_slice-command-items.ensures in
    let size = ap (length {A = Command}) same in
    let within : c.loop-command.command-index < length commands = omega arith in
    let is : command ≡ get_or commands c.loop-command.command-index command =
    c.command-item.is ∙ ap (λ cs. get_or cs c.loop-command.command-index command) same in
    quote_more c.args.snapshot.now.symbol _ c.loop-command.quotes.items c.push_quote.new.quotes.items commands c.loop-command.command-index command within is
    c.loop-command.invariant c.in_ok-push_quote.ensures
