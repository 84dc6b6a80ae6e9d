-- The clock after a piece says nothing.
use Rattle.std.proofs.Common.{◌≡◌, ◌++◌, List, take, ap, ◌∙◌}
use Rattle.quote_flow.specs.declared.quote.MarketQuote.{MarketQuote}
use Rattle.source_feed.proofs.Steps.{hears_ticked, on_ok_any}
use Rattle.source_feed.proofs.turn.work_piece.Goals as goal

pub returns-in-Ok-clause-heard : goal.returns-in-Ok-clause-heard
returns-in-Ok-clause-heard c = on_ok_any c.tick.result (λ came stands.
    let a = c.in-Ok.ensures.adds came stands in
    let list : c.take.new.said.quotes.items ≡ a.0 = a.1 ∙ ap (λ (q : List MarketQuote). q ++ a.0) c.clear.ensures in
    hears_ticked c.args.config.now came (take c.args.count c.args.buffer.now) c.take.new.self c.tick.new.self a.0 c.take.new.said.quotes.items a.2 list
    c.tick.ensures.names c.tick.ensures.unread c.tick.ensures.state)
