use Rattle.audit_tables.proofs.Quoting.{no_quotes}
use Rattle.audit_tables.proofs.quotes.no_quotes.Goals as goal

pub returns : goal.returns
returns c = λ symbol. no_quotes c.args.config.now symbol c.in_ok-markets.markets c.requires (let e = c.in_ok-markets.ensures in cc)
