-- Some parts at a time.
use Rattle.std.proofs.Common.{◌+◌, length, length-append, ap, subst, ◌∙◌, arith}
use Rattle.symbol_book.specs.Book.{BookView}
use Rattle.feeds_core.specs.Books.{MakeRunsFrom}
use Rattle.feeds_core.specs.Putting.{parts_text}
use Rattle.feeds_core.proofs.Parts.{cut_books, later_runs, more_put, parts_of_both, put_stops}
use Rattle.feeds_core.proofs.putting.put_books.Goals as goal

pub loop-rest-preserved : goal.loop-rest-preserved
loop-rest-preserved g c =
    let config = c.args.config.now in
    let books = c.args.books.now in
    let first = c.loop-rest.first in
    let some = c.split_at.result.0.now in
    let later = c.split_at.result.1.now in
    let i = c.loop-rest.invariant in
    let both = cut_books c.min.result c.loop-rest.rest.now some later c.split_at.ensures.front c.split_at.ensures.back in
    let count = ap (length {A = BookView}) both in
    record {
      put = more_put (parts_text config 0 books) (parts_text config first c.loop-rest.rest.now) (parts_text config first some)
          (parts_text config (first + length some) later) _ _ _ i.put
          (ap (parts_text config first) both ∙ parts_of_both config first some later) c.in-Ok.ensures.text;
      runs = later_runs config first some later (subst (MakeRunsFrom config first) both i.runs);
      count = omega (arith, i.count, count, length-append some later);
      later = omega (arith, i.later, c.in-Ok.ensures.later);
    }

pub returns-in-Err-clause-text : goal.returns-in-Err-clause-text
returns-in-Err-clause-text g c =
    let config = c.args.config.now in
    let books = c.args.books.now in
    let first = c.loop-rest.first in
    let some = c.split_at.result.0.now in
    let later = c.split_at.result.1.now in
    let both = cut_books c.min.result c.loop-rest.rest.now some later c.split_at.ensures.front c.split_at.ensures.back in
    put_stops (parts_text config 0 books) (parts_text config first c.loop-rest.rest.now) (parts_text config first some)
    (parts_text config (first + length some) later) _ _ _ c.loop-rest.invariant.put
    (ap (parts_text config first) both ∙ parts_of_both config first some later) c.in-Err.ensures.text
