-- Part by part.
use Rattle.std.proofs.Common.{◌+◌, ◌<◌, drop, get_or, length, List, Result, Vec, ℕ, ap, ◌∙◌, arith}
use Rattle.std.specs.declared.alloc.Global.{Global}
use Rattle.venue_words.specs.declared.refusal.NoMemory.{NoMemory}
use Rattle.feeds_core.specs.Putting.{book_text, parts_text}
use Rattle.feeds_core.proofs.Parts.{book_at, more_put, next_part, put_stops}
use Rattle.feeds_core.proofs.putting.put_parts.Goals as goal

pub loop-text-preserved : goal.loop-text-preserved
loop-text-preserved g c =
    let config = c.args.config.now in
    let books = c.args.books.now in
    let first = c.args.first in
    let k = c.loop-text.text-index in
    let i = c.loop-text.invariant in
    let less : k < length books = omega (arith, c.loop-text-test.true, c.deref-text-items.ensures.len, c.in-Ok.ensures.count) in
    let here = book_at books k less in
    let made = c.in-Ok.ensures.each k here.0 c.text-item.result less here.1
    (c.text-item.is ∙ ap (λ (ts : List (Result (Vec ℕ Global) NoMemory)). get_or ts k c.text-item.result) c.deref-text-items.ensures.value) in
    record {
      put = more_put (parts_text config first books) (parts_text config (first + k) (drop k books)) (book_text config (first + k) here.0)
          (parts_text config (first + (k + 1)) (drop (k + 1) books)) _ _ _ i.put (next_part config first books k here.0 less here.1)
          (c.in-Ok-put_text.ensures.text (book_text config (first + k) here.0) made);
      later = omega (arith, i.later, c.in-Ok-put_text.ensures.later);
    }

pub returns-in-Err-put_text-clause-text : goal.returns-in-Err-put_text-clause-text
returns-in-Err-put_text-clause-text g c =
    let config = c.args.config.now in
    let books = c.args.books.now in
    let first = c.args.first in
    let k = c.loop-text.text-index in
    let less : k < length books = omega (arith, c.loop-text-test.true, c.deref-text-items.ensures.len, c.in-Ok.ensures.count) in
    let here = book_at books k less in
    let made = c.in-Ok.ensures.each k here.0 c.text-item.result less here.1
    (c.text-item.is ∙ ap (λ (ts : List (Result (Vec ℕ Global) NoMemory)). get_or ts k c.text-item.result) c.deref-text-items.ensures.value) in
    put_stops (parts_text config first books) (parts_text config (first + k) (drop k books)) (book_text config (first + k) here.0)
    (parts_text config (first + (k + 1)) (drop (k + 1) books)) _ _ _ c.loop-text.invariant.put (next_part config first books k here.0 less here.1)
    (c.in-Err-put_text.ensures.text (book_text config (first + k) here.0) made)
