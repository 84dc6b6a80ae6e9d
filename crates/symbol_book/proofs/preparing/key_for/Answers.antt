use Rattle.std.proofs.Common.{◌≡◌, sym, subst, ap, ◌∙◌}
use Rattle.std.specs.Prelude.{Option, unwrap_or}
use Rattle.venue_words.specs.declared.row.Key.{Key}
use Rattle.venue_words.specs.Conditions.{IsKey}
use Rattle.symbol_book.proofs.Conditions.{key_fits}
use Rattle.symbol_book.proofs.preparing.key_for.Goals as goal

pub returns-in-New-clause-fits : goal.returns-in-New-clause-fits
returns-in-New-clause-fits c = λ key e.
    let same : c.key_of.result ≡ key = ap (λ (o : Option Key). unwrap_or o key) e in
    subst IsKey (sym c.key_of.ensures ∙ same) (key_fits c.args.tick c.get.result c.requires)
