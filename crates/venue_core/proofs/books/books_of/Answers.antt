-- The next book has the next limit and tick.
use Rattle.std.proofs.Common.{ℕ, ◌<◌, ◌∷◌, ◌++◌, [], List, length, get_or, sym, ap, subst, arith}
use Rattle.std.proofs.lemmas.List.Elements.{All-same, All-push}
use Rattle.venue_words.specs.Conditions.{IsTick}
use Rattle.symbol_book.specs.Book.{BookView}
use Rattle.venue_core.specs.Books.{IsNewBook}
use Rattle.venue_core.proofs.NewBooks.{all_at, next_number}
use Rattle.venue_core.proofs.books.books_of.Goals as goal

pub loop-i-preserved : goal.loop-i-preserved
loop-i-preserved c =
    let inv = c.loop-i.invariant in
    let push = c.in_ok-push.ensures.items in
    let same = c.in_ok-book.ensures.same in
    let limits = ap length c.as_slice-limits.ensures in
    let ticks = ap length c.as_slice-ticks.ensures in
    let each = c.requires.limit_each in
    let each_tick = c.requires.tick_each in
    let test = c.loop-i-test.true in
    let limit : c.loop-i.i < length c.as_slice-limits.result.now = omega arith in
    let tick : c.loop-i.i < length c.as_slice-ticks.result.now = omega arith in
    let its_tick = subst (λ (ns : List ℕ). IsTick (get_or ns c.loop-i.i 0)) (sym c.as_slice-ticks.ensures)
    (all_at IsTick c.args.config.now.ticks c.loop-i.i (omega arith) c.requires.ticks) in (
      next_number (λ (book : BookView). book.limit) c.loop-i.books.items c.push.new.self.items c.as_slice-limits.result.now c.loop-i.i c.in_ok-book.book inv.0 push same.2 limit,
      next_number (λ (book : BookView). book.tick) c.loop-i.books.items c.push.new.self.items c.as_slice-ticks.result.now c.loop-i.i c.in_ok-book.book inv.1 push same.1 tick,
      All-same (IsNewBook c.len-markets.result) c.push.new.self.items (c.loop-i.books.items ++ c.in_ok-book.book ∷ []) push
          (All-push (IsNewBook c.len-markets.result) c.loop-i.books.items c.in_ok-book.book inv.2
          (record { markets_are = same.0; tick = subst IsTick (sym same.1) its_tick; empty = c.in_ok-book.ensures.empty.0 })),
    )
