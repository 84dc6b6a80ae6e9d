use Rattle.std.proofs.Common.{◌≡◌, ◌∙◌, ◌&&◌, ap, true, false, Some}
use Rattle.std.proofs.lemmas.Bool.{and_from}
use Rattle.listing.specs.Commands.{name_at}
use Rattle.listing.specs.Lines.{symbol_line}
use Rattle.listing_reader.specs.declared.lines.Counts.{Counts}
use Rattle.listing_reader.specs.Fitting.{fits_number}
use Rattle.listing_reader.proofs.Events.{only_counts, same_bytes}
use Rattle.listing_reader.proofs.lines.read_symbol.Goals as goal

pub returns-then-not-fits_counts-clause-only : goal.returns-then-not-fits_counts-clause-only
returns-then-not-fits_counts-clause-only c = λ events reports few short line.
    let same = only_counts c.args.config.now c.args.symbol c.args.text.now c.told_counts-counts.result events reports c.requires c.told_counts-counts.ensures few short line in
    let passed : c.fits_counts.result ≡ true =
    c.fits_counts.ensures ∙ ap (λ (x : Counts). fits_number x.events && fits_number x.reports) same ∙ and_from (fits_number events) (fits_number reports) few short in
    let never : true ≡ false = rw passed at c.if-not-fits_counts.true in
    absurd (cc)

pub returns-then-eq-clause-only : goal.returns-then-eq-clause-only
returns-then-eq-clause-only c = λ events reports few short line.
    ap (λ (x : Counts). Some x) (only_counts c.args.config.now c.args.symbol c.args.text.now c.told_counts-counts.result events reports c.requires c.told_counts-counts.ensures few short line)

pub returns-clause-only : goal.returns-clause-only
returns-clause-only c = λ events reports few short line.
    let same = only_counts c.args.config.now c.args.symbol c.args.text.now c.told_counts-counts.result events reports c.requires c.told_counts-counts.ensures few short line in
    let text : c.as_slice.result.now ≡ c.args.text.now =
    c.as_slice.ensures.value ∙ c.in_ok-line.ensures ∙ ap (λ (x : Counts). symbol_line (name_at c.args.config.now.symbols c.args.symbol) x.events x.reports) same ∙ line in
    let never : false ≡ true = c.if-eq.ensures ∙ same_bytes c.as_slice.result.now c.args.text.now text in
    absurd (cc)
