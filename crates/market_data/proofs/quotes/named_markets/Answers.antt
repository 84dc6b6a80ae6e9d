-- A market that is named later stands behind those so far.
use Rattle.std.proofs.Common.{◌≡◌, ◌+◌, ◌<◌, ◌∙◌, ℕ, Bool, true, false, if◌then◌else◌, List, [], ◌∷◌, ◌++◌, length, get_or, drop, drop-cons, add-one, append_assoc, refl, sym, ap, arith}
use Rattle.market_data.specs.declared.entries.EntryQuote.{EntryQuote}
use Rattle.market_data.specs.Quotes.{first_named, is_named, markets_in, with_named}
use Rattle.market_data.proofs.quotes.named_markets.Goals as goal

named_next : (named : Bool) (before later : List ℕ) (market : ℕ)
    → before ++ (if named then first_named before later else (market ∷ first_named (before ++ market ∷ []) later))
    ≡ (if named then before else before ++ market ∷ []) ++ first_named (if named then before else before ++ market ∷ []) later
named_next true before later market = refl
named_next false before later market = sym (append_assoc before (market ∷ []) (first_named (before ++ market ∷ []) later))

named_more : (whole before after : List ℕ) (quotes : List EntryQuote) (i : ℕ) (other : EntryQuote) → i < length quotes
    → whole ≡ before ++ first_named before (markets_in (drop i quotes)) → after ≡ with_named before (get_or quotes i other).market
    → whole ≡ after ++ first_named after (markets_in (drop (i + 1) quotes))
named_more whole before after quotes i other within so is =
    let market = (get_or quotes i other).market in
    let later = markets_in (drop (i + 1) quotes) in
    let next : drop i quotes ≡ get_or quotes i other ∷ drop (i + 1) quotes = rw add-one (drop-cons quotes i other within) in
    so
    ∙ ap (λ (qs : List EntryQuote). before ++ first_named before (markets_in qs)) next
    ∙ named_next (is_named before market) before later market
    ∙ ap (λ (named : List ℕ). named ++ first_named named later) (sym is)

pub loop-quote-preserved : goal.loop-quote-preserved
loop-quote-preserved c =
    named_more _ c.loop-quote.markets.items c.name_market.new.markets.items c.args.quotes.now c.loop-quote.quote-index _ (omega arith)
    c.loop-quote.invariant c.in_ok-name_market.ensures
