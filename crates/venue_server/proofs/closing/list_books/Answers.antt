-- Each book's part goes behind those before it.
use Rattle.std.proofs.Common.{ℕ, take, sym, subst, arith}
use Rattle.std.specs.Io.KnownBytes.{Appends}
use Rattle.io_edge.specs.Grows.{AppendsPrefix}
use Rattle.venue_server.proofs.Lists.{listed, book_text, appends_trans, listed_next, stops_in, at_err}
use Rattle.venue_server.proofs.closing.list_books.Goals as goal

pub loop-book-preserved : goal.loop-book-preserved
loop-book-preserved g c =
    let loop = c.loop-book in
    let inv = loop.invariant in
    let config = c.args.config.now in
    let books = c.args.books.now in
    let was = g.K.Sink.told c.args.out.now in
    let mid = g.K.Sink.told loop.out in
    let now = g.K.Sink.told c.list_book.new.out in
    let book = c.book-item.result in
    let done = listed config 0 (take loop.book-index books) in
    let put = subst (λ (s : ℕ). Appends mid now (book_text config s book)) inv.1 c.in_ok-list_book.ensures.text in (
      subst (Appends was now) (sym (listed_next config loop.book-index books book (omega arith) c.book-item.is))
          (appends_trans was mid now done (book_text config loop.book-index book) inv.0 put),
      (let at = inv.1 in omega arith),
      (let h = inv.2 in let k = c.list_book.ensures.later in omega arith),
    )

pub returns-in_err-list_book-clause-text : goal.returns-in_err-list_book-clause-text
returns-in_err-list_book-clause-text g c =
    let loop = c.loop-book in
    let inv = loop.invariant in
    let config = c.args.config.now in
    let books = c.args.books.now in
    let was = g.K.Sink.told c.args.out.now in
    let mid = g.K.Sink.told loop.out in
    let now = g.K.Sink.told c.list_book.new.out in
    let book = c.book-item.result in
    let put = subst (λ (s : ℕ). AppendsPrefix mid now (book_text config s book)) inv.1 c.in_err-list_book.ensures.text in
    at_err _ c.from_residual.result _ _ c.from_residual.ensures.1
    (stops_in config loop.book-index books book was mid now (omega arith) c.book-item.is inv.0 put)
