-- The venue of the config is one over any books.
use Rattle.std.proofs.Common.{List, map, arith, Vec}
use Rattle.std.specs.declared.alloc.Global.{Global}
use Rattle.symbol_book.proofs.Sending.{sending}
use Rattle.feed_work.specs.Feeds.{Asked}
use Rattle.feeds_core.proofs.OfConfig.{count_books, worked_book}
use Rattle.feed_work.proofs.Places.{within}
use Rattle.feeds_core.proofs.venue.work_on_venue.Goals as goal

abbrev items : Vec Asked Global → List Asked
items commands = commands.items

pub returns-clause-books : goal.returns-clause-books
returns-clause-books g c symbol book at =
    let config = c.args.config.now in
    let made = c.in_ok-venue.ensures in
    let books = c.in_ok-books.books.items in
    let settings = c.in_ok-books.ensures.settings in
    let count = count_books config c.in_ok-venue.venue books c.requires.config made.setup settings in
    let lt = within books symbol book at in
    worked_book config c.in_ok-venue.venue c.in_ok-venue.seats books (map items c.args.feeds.items) symbol book c.requires.config
    (made.of_config c.in_ok-venue.seats made.seats) made.seats settings (omega arith) at (c.in_ok-books.ensures.interleaves symbol book at)

pub work_over-requires-send-V : goal.work_over-requires-send-V
work_over-requires-send-V g c κs lives = search sending depth 30 fits 50000
