-- The closed venue's journals are listed.
use Rattle.std.proofs.Common.{List, map, Vec, sym, subst}
use Rattle.std.specs.Io.KnownBytes.{Appends}
use Rattle.std.specs.declared.alloc.Global.{Global}
use Rattle.io_edge.specs.Grows.{AppendsPrefix}
use Rattle.symbol_book.specs.Book.{BookView}
use Rattle.feed_work.specs.Feeds.{Asked}
use Rattle.feeds_core.specs.FeedRuns.{FeedsOutcome, listing_of, run_of}
use Rattle.feeds_core.specs.Putting.{journals_of}
use Rattle.feeds_core.specs.Statuses.{name_of}
use Rattle.feeds_core.specs.Working.{listing_status}
use Rattle.feeds_core.specs.declared.status.FeedsStatus.{FeedsStatus}
use Rattle.feeds_core.proofs.Worked.{all_asked, all_for, done_outcome, part_outcome}
use Rattle.feeds_core.proofs.working.work_texts.Goals as goal

pub work_on_venue-requires-clause-commands : goal.work_on_venue-requires-clause-commands
work_on_venue-requires-clause-commands g c κs facts =
    all_for c.args.config.now c.in_ok-lists.lists.items c.in_ok-commands.commands.items c.in_ok-commands.ensures c.in_ok-lists.ensures.counted

pub returns-in-Ok-clause-outcome : goal.returns-in-Ok-clause-outcome
returns-in-Ok-clause-outcome g c = λ already feeds kept.
    done_outcome (run_of c.args.config.now already feeds) c.in_ok-lists.lists.items
    (map (λ (feed : Vec Asked Global). feed.items) c.in_ok-commands.commands.items) c.in_ok-books.books.items
    (g.K.Sink.told c.args.out.now) (g.K.Sink.told c.put_books.new.out)
    (c.in_ok-lists.ensures.sound already feeds kept)
    (all_asked c.in_ok-lists.lists.items c.in_ok-commands.commands.items c.in_ok-commands.ensures)
    c.in_ok-books.ensures.count c.in_ok-books.ensures.books
    (subst (λ (bs : List BookView). Appends (g.K.Sink.told c.args.out.now) (g.K.Sink.told c.put_books.new.out) (listing_of c.args.config.now (journals_of bs)))
    c.as_slice.ensures.value c.in-Ok.ensures.text)

pub returns-in-Err-clause-outcome : goal.returns-in-Err-clause-outcome
returns-in-Err-clause-outcome g c = λ already feeds kept.
    let config = c.args.config.now in
    let old = g.K.Sink.told c.args.out.now in
    let new = g.K.Sink.told c.put_books.new.out in
    subst (λ (s : FeedsStatus). FeedsOutcome (run_of config already feeds) old new (name_of config s) s) (sym c.listing_status.ensures)
    (part_outcome (run_of config already feeds) c.in_ok-lists.lists.items
    (map (λ (feed : Vec Asked Global). feed.items) c.in_ok-commands.commands.items) c.in_ok-books.books.items
    old new (name_of config (listing_status c.in-Err.fault)) c.in-Err.fault
    (c.in_ok-lists.ensures.sound already feeds kept)
    (all_asked c.in_ok-lists.lists.items c.in_ok-commands.commands.items c.in_ok-commands.ensures)
    c.in_ok-books.ensures.count c.in_ok-books.ensures.books
    (subst (λ (bs : List BookView). AppendsPrefix old new (listing_of config (journals_of bs))) c.as_slice.ensures.value c.in-Err.ensures.text))
