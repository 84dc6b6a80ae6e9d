-- The clock is asked once, for the quote.
use Rattle.std.proofs.Common.{◌≡◌, ◌+◌, ◌∷◌, [], ℕ, ℤ, refl, inr, ap, subst, to_z, of_z, w64, rules}
use Rattle.serve_core.specs.Quoting.{feed_behind, quote_in}
use Rattle.serve_core.specs.Turning.{GrewBy}
use Rattle.serve_core.proofs.QuoteReads.{submits_no, submits_one}
use Rattle.serve_core.proofs.quotes.submit_now.Goals as goal

pub returns-in-Ok-clause-ok : goal.returns-in-Ok-clause-ok
returns-in-Ok-clause-ok g c =
    let at = g.F.Floor.at in
    let feed = feed_behind c.args.config.now in
    let quote = quote_in c.args.quote.now in
    let moment = c.now-moment.result in
    let e : to_z w64 (of_z w64 moment) ≡ moment = search rules in
    let behind : c.len.result + 1 ≡ feed = ap (λ (n : ℕ). n + 1) c.len.ensures in
    submits_one at feed moment quote c.args.floor.now c.submit_counted.new.floor _ _
    (subst (λ (m : ℤ). GrewBy at feed ((m, quote) ∷ []) c.args.floor.now c.submit_counted.new.floor) e
    (subst (λ (n : ℕ). GrewBy at n ((to_z w64 (of_z w64 moment), quote) ∷ []) c.args.floor.now c.submit_counted.new.floor) behind c.in-Ok.ensures.took))
    c.now-moment.ensures

pub returns-in-Err-NoMemory-clause-err : goal.returns-in-Err-NoMemory-clause-err
returns-in-Err-NoMemory-clause-err g c =
    let at = g.F.Floor.at in
    let feed = feed_behind c.args.config.now in
    let behind : c.len.result + 1 ≡ feed = ap (λ (n : ℕ). n + 1) c.len.ensures in (
      submits_no at feed c.args.floor.now c.submit_counted.new.floor _
          (subst (λ (n : ℕ). GrewBy at n [] c.args.floor.now c.submit_counted.new.floor) behind c.in-Err-NoMemory.ensures.none.0),
      inr (c.now-moment.result, c.now-moment.ensures),
    )

pub returns-in-Err-Full-clause-err : goal.returns-in-Err-Full-clause-err
returns-in-Err-Full-clause-err g c =
    let at = g.F.Floor.at in
    let feed = feed_behind c.args.config.now in
    let behind : c.len.result + 1 ≡ feed = ap (λ (n : ℕ). n + 1) c.len.ensures in
    let full = rw c.in-Err-Full.field-0-is at c.in-Err-Full.ensures.none.1 in (
      quote_in c.args.quote.now,
      refl,
      record {
        none = submits_no at feed c.args.floor.now c.submit_counted.new.floor _
            (subst (λ (n : ℕ). GrewBy at n [] c.args.floor.now c.submit_counted.new.floor) behind c.in-Err-Full.ensures.none.0);
        asked = inr (c.now-moment.result, c.now-moment.ensures);
        next = full.0;
        found_is = full.1;
        limit = full.2;
      },
    )
