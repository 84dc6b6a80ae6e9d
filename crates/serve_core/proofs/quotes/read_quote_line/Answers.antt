-- A line that begins with Q is read as in a feed.
use Rattle.std.proofs.Common.{◌≡◌, ◌<◌, length, true, false, inr, subst, rules}
use Rattle.venue_words.specs.Conditions.{fits_limits}
use Rattle.venue_words.specs.Floors.{is_configured, setup_of}
use Rattle.script_text.specs.Body.{IsLineOf}
use Rattle.serve_core.specs.QuoteFiles.{begins_quote}
use Rattle.serve_core.proofs.QuoteReads.{meets_only, no_quote_is, quoted, read_fault}
use Rattle.serve_core.proofs.quotes.read_quote_line.Goals as goal

pub returns-then-not-begins_quote-clause-line : goal.returns-then-not-begins_quote-clause-line
returns-then-not-begins_quote-clause-line c =
    let other : begins_quote c.args.text.now ≡ false = search rules in
    inr (rw c.no_quote.ensures (no_quote_is c.args.config.now c.args.text.now c.requires.short other))

pub returns-in-Ok-clause-line : goal.returns-in-Ok-clause-line
returns-in-Ok-clause-line c =
    let begins : begins_quote c.args.text.now ≡ true = search rules in
    meets_only c.args.config.now c.args.text.now c.in-Ok.line c.only_quote.result c.requires.short begins c.in-Ok.ensures.line
    c.only_quote.ensures.quote c.only_quote.ensures.other

pub returns-in-Ok-clause-symbol : goal.returns-in-Ok-clause-symbol
returns-in-Ok-clause-symbol c =
    quoted (λ symbol command. symbol < length c.args.config.now.symbols) c.in-Ok.line c.only_quote.result
    (λ symbol command e. (subst (IsLineOf c.args.config.now) e c.in-Ok.ensures.configured).within) c.only_quote.ensures.quote

pub returns-in-Ok-clause-configured : goal.returns-in-Ok-clause-configured
returns-in-Ok-clause-configured c =
    quoted (λ symbol command. is_configured (setup_of c.args.config.now) command ≡ true) c.in-Ok.line c.only_quote.result
    (λ symbol command e. (subst (IsLineOf c.args.config.now) e c.in-Ok.ensures.configured).market) c.only_quote.ensures.quote

pub returns-in-Ok-clause-limits : goal.returns-in-Ok-clause-limits
returns-in-Ok-clause-limits c =
    quoted (λ symbol command. fits_limits command ≡ true) c.in-Ok.line c.only_quote.result
    (λ symbol command e. (subst (IsLineOf c.args.config.now) e c.in-Ok.ensures.configured).limits) c.only_quote.ensures.quote

pub returns-in-Err-clause-line : goal.returns-in-Err-clause-line
returns-in-Err-clause-line c =
    let begins : begins_quote c.args.text.now ≡ true = search rules in
    read_fault c.args.config.now c.args.text.now c.in-Err.fault c.requires.short begins c.in-Err.ensures.line
