use Rattle.std.proofs.Common.{◌≡◌, true, length, sym, ◌∙◌, ap, subst}
use Rattle.venue_words.specs.declared.command.Command.{Command}
use Rattle.symbol_book.specs.Commands.{takes_command}
use Rattle.audit_tables.specs.Quotes.{markets_after}
use Rattle.audit_tables.proofs.Quoting.{market_within, no_quote}
use Rattle.audit_tables.proofs.quotes.note_quote.Goals as goal

pub set-requires : goal.set-requires
set-requires c =
    market_within (length c.args.markets.now) c.in-Quote.market c.in-Quote.bid c.in-Quote.offer
    (subst (λ (x : Command). takes_command (length c.args.markets.now) x ≡ true) c.in-Quote.is c.requires)

pub returns-in-Quote : goal.returns-in-Quote
returns-in-Quote c = c.set.ensures.rows ∙ ap (λ (x : Command). markets_after c.args.markets.now x) (sym c.in-Quote.is)

pub returns-in_default : goal.returns-in_default
returns-in_default c = no_quote c.args.markets.now c.args.command.now (λ market bid offer is. c.in_default.not-Quote market bid offer is)
